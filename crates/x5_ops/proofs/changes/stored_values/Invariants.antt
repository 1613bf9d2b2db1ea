-- Stored so far are the values from the place on that have a normal form, ordered by it; the place goes down to zero.
use Rattle.std.proofs.Common.{◌≡◌, ◌≤◌, length, drop}
use Rattle.x5_model.specs.Attributes as attributes
use Rattle.x5_model.specs.Values.{Known}
use Rattle.x5_ops.specs.RefusalView.{given_values}
use Rattle.x5_ops.proofs.changes.stored_values.Given as goal

abbrev pub invariant-loop-left : goal.invariant-loop-left
invariant-loop-left l = (l.left ≤ length l.values) × (l.stored.items ≡ attributes.stored_values (given_values (Known l.kind) (drop l.left l.values)))

abbrev pub decreases-loop-left : goal.decreases-loop-left
decreases-loop-left l = l.left
