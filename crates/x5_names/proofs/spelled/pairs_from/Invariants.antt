-- While an RDN's pairs are made from their written values: the pairs made so far, then the stored form of those that are
-- left, are the stored form of them all.
use Rattle.std.proofs.Common.{◌≡◌, ◌++◌, drop}
use Rattle.x5_model.specs.Normal.{stored_rdn}
use Rattle.x5_names.proofs.spelled.pairs_from.Given as goal

abbrev pub invariant-loop-pair : goal.invariant-loop-pair
invariant-loop-pair l = l.pairs.items ++ stored_rdn (drop l.pair-index l.values) ≡ stored_rdn l.values
