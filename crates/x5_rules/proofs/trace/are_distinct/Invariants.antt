-- The items are different where those that are left are.
use Rattle.std.proofs.Common.{◌≡◌, drop, map}
use Rattle.x5_model.specs.Words.{distinct}
use Rattle.x5_model_typed.specs.Rules as rules
use Rattle.x5_types.specs.NodeView.{node_view}
use Rattle.x5_rules.proofs.trace.are_distinct.Given as goal

abbrev pub invariant-loop-i : goal.invariant-loop-i
invariant-loop-i l = distinct rules.same_item (map node_view (drop l.i l.items)) ≡ distinct rules.same_item
    (map node_view l.items)
