-- The changes so far, and then the others.
use Rattle.std.proofs.Common.{◌≡◌, ◌++◌, drop, map}
use Rattle.x5_model_messages.specs.Terms as terms
use Rattle.x5_ops.specs.RequestViews.{change_view}
use Rattle.x5_types.specs.NodeView.{node_view}
use Rattle.x5_dapber.proofs.attributes.changes_node.Given as goal

abbrev pub invariant-loop-change : goal.invariant-loop-change
invariant-loop-change l =
    map node_view l.nodes.items ++ map terms.change_node (map change_view (drop l.change-index l.changes))
    ≡ map terms.change_node (map change_view l.changes)
