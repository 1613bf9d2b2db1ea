-- One of the changes that are left names objectClass exactly where one of all the changes does.
use Rattle.std.proofs.Common.{◌≡◌, map, drop}
use Rattle.std.specs.List.{list_any}
use Rattle.x5_model.specs.Statics as model
use Rattle.x5_ops.specs.RequestViews.{change_view}
use Rattle.x5_ops.proofs.statics.name_class.Given as goal

abbrev pub invariant-loop-change : goal.invariant-loop-change
invariant-loop-change l = list_any model.names_class (map change_view (drop l.change-index l.changes)) ≡ list_any model.names_class (map change_view l.changes)
