-- The entry so far is that of the attributes from the place on, the last put in first; the place goes down to zero.
use Rattle.std.proofs.Common.{◌≡◌, ◌≤◌, map, length, drop}
use Rattle.x5_model.specs.Attributes as attributes
use Rattle.x5_ops.specs.RequestViews.{attribute_view}
use Rattle.x5_ops.proofs.changes.entry_of.Given as goal

abbrev pub invariant-loop-left : goal.invariant-loop-left
invariant-loop-left l = (l.left ≤ length l.offered) × (l.entry ≡ attributes.entry_of (map attribute_view (drop l.left l.offered)))

abbrev pub decreases-loop-left : goal.decreases-loop-left
decreases-loop-left l = l.left
