-- What is shown so far, with what is shown of the selected attributes that are left, is what is shown of all selected.
use Rattle.std.proofs.Common.{◌≡◌, ◌++◌, map, drop}
use Rattle.std.specs.List.{filter}
use Rattle.x5_model.specs.Selections as model
use Rattle.x5_ops.specs.AnswerViews.{shown_view}
use Rattle.x5_ops.specs.RequestViews.{selection_view}
use Rattle.x5_ops.proofs.reading.shown_of.Given as goal

abbrev pub invariant-loop-attribute : goal.invariant-loop-attribute
invariant-loop-attribute l =
    map shown_view l.list.items ++ map model.shown_attribute (filter (λ a. model.is_selected (selection_view l.selection) a.kind) (drop l.attribute-index l.attributes)) ≡ map model.shown_attribute (filter (λ a. model.is_selected (selection_view l.selection) a.kind) l.attributes)
