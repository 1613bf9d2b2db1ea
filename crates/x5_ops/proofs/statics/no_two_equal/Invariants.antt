-- No two of the normal forms from the place on are the same exactly where no two of all are.
use Rattle.std.proofs.Common.{◌≡◌, drop}
use Rattle.x5_model.specs.Words.{distinct}
use Rattle.x5_ops.specs.RefusalView.{same_normal}
use Rattle.x5_ops.proofs.statics.no_two_equal.Given as goal

abbrev pub invariant-loop-i : goal.invariant-loop-i
invariant-loop-i l = distinct same_normal (drop l.i l.normals) ≡ distinct same_normal l.normals
