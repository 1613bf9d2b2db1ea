-- While what is written of an RDN is gathered: the pairs copied so far, then the type and text of those that are left,
-- are the written RDN.
use Rattle.std.proofs.Common.{◌≡◌, ◌++◌, map, drop}
use Rattle.x5_model.specs.Values.{written_pair}
use Rattle.x5_names.proofs.spelled.Rdn.value.Given as goal

abbrev pub invariant-loop-pair : goal.invariant-loop-pair
invariant-loop-pair l = l.pairs.items ++ map written_pair (drop l.pair-index l.pair-items) ≡ map written_pair l.pair-items
