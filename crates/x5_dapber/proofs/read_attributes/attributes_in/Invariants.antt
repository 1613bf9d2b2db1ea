-- The attributes so far, and then those of the other nodes.
use Rattle.std.proofs.Common.{◌≡◌, ◌++◌, drop, map}
use Rattle.x5_model_messages.specs.Terms as terms
use Rattle.x5_ops.specs.RequestViews.{attribute_view}
use Rattle.x5_types.specs.NodeView.{node_view}
use Rattle.x5_dapber.proofs.read_attributes.attributes_in.Given as goal

abbrev pub invariant-loop-node : goal.invariant-loop-node
invariant-loop-node l =
    map attribute_view l.attributes.items ++ map terms.attribute_in (map node_view (drop l.node-index l.nodes))
    ≡ map terms.attribute_in (map node_view l.nodes)
