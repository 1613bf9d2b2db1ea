-- While the type numbers of an RDN are checked: the pairs ascend exactly if those that are left ascend from the least
-- number that is still allowed.
use Rattle.std.proofs.Common.{◌≡◌, drop}
use Rattle.x5_model.specs.Normal as model
use Rattle.x5_syntax.proofs.names.ascends.Given as goal

abbrev pub invariant-loop-pair : goal.invariant-loop-pair
invariant-loop-pair l = model.ascends_from l.least (drop l.pair-index l.pairs) ≡ model.ascends l.pairs
