-- The attributes so far, and then the others.
use Rattle.std.proofs.Common.{◌≡◌, ◌++◌, drop, map}
use Rattle.x5_model_messages.specs.Terms as terms
use Rattle.x5_ops.specs.RequestViews.{attribute_view}
use Rattle.x5_types.specs.NodeView.{node_view}
use Rattle.x5_dapber.proofs.attributes.attributes_node.Given as goal

abbrev pub invariant-loop-attribute : goal.invariant-loop-attribute
invariant-loop-attribute l =
    map node_view l.nodes.items ++ map terms.attribute_node (map attribute_view (drop l.attribute-index l.attributes))
    ≡ map terms.attribute_node (map attribute_view l.attributes)
