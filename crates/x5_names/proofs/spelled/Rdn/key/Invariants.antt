-- While an RDN's key is made: the key pairs made so far, then the key of the pairs that are left, are the RDN's key.
use Rattle.std.proofs.Common.{◌≡◌, ◌++◌, drop}
use Rattle.x5_model.specs.Values.{key_of_rdn}
use Rattle.x5_names.proofs.spelled.Rdn.key.Given as goal

abbrev pub invariant-loop-pair : goal.invariant-loop-pair
invariant-loop-pair l = l.pairs.items ++ key_of_rdn (drop l.pair-index l.pair-items) ≡ key_of_rdn l.pair-items
