-- The normal form is the same as one of the others that are left exactly where it is the same as one of all others.
use Rattle.std.proofs.Common.{◌≡◌, drop}
use Rattle.x5_model.specs.Words.{has}
use Rattle.x5_ops.specs.RefusalView.{same_normal}
use Rattle.x5_ops.proofs.statics.is_among.Given as goal

abbrev pub invariant-loop-other : goal.invariant-loop-other
invariant-loop-other l = has same_normal (drop l.other-index l.others) l.normal ≡ has same_normal l.others l.normal
