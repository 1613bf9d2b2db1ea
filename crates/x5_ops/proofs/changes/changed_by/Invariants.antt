-- The changes that are left, made to the entry so far, give what all the changes give when made to the given entry.
use Rattle.std.proofs.Common.{◌≡◌, map, drop}
use Rattle.x5_model.specs.Changes as model
use Rattle.x5_ops.specs.RequestViews.{change_view}
use Rattle.x5_ops.proofs.changes.changed_by.Given as goal

abbrev pub invariant-loop-change : goal.invariant-loop-change
invariant-loop-change l = model.changed_by (map change_view (drop l.change-index l.changes)) l.entry ≡ model.changed_by (map change_view l.changes) l.fn.entry
