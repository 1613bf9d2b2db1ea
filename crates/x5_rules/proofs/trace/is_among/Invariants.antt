-- Some item is the same where one of those that are left is.
use Rattle.std.proofs.Common.{◌≡◌, drop, map}
use Rattle.x5_model.specs.Words.{has}
use Rattle.x5_model_typed.specs.Rules as rules
use Rattle.x5_types.specs.NodeView.{node_view}
use Rattle.x5_rules.proofs.trace.is_among.Given as goal

abbrev pub invariant-loop-i : goal.invariant-loop-i
invariant-loop-i l = has rules.same_item (map node_view (drop l.i l.items)) (node_view l.item)
    ≡ has rules.same_item (map node_view l.items) (node_view l.item)
