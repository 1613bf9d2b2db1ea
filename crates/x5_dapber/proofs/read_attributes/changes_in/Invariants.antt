-- The changes so far, and then those of the other nodes.
use Rattle.std.proofs.Common.{◌≡◌, ◌++◌, drop, map}
use Rattle.x5_model_messages.specs.Terms as terms
use Rattle.x5_ops.specs.RequestViews.{change_view}
use Rattle.x5_types.specs.NodeView.{node_view}
use Rattle.x5_dapber.proofs.read_attributes.changes_in.Given as goal

abbrev pub invariant-loop-node : goal.invariant-loop-node
invariant-loop-node l =
    map change_view l.changes ++ map terms.change_in (map node_view (drop l.node-index l.nodes))
    ≡ map terms.change_in (map node_view l.nodes)
