-- The attributes so far, and then the others.
use Rattle.std.proofs.Common.{◌≡◌, ◌++◌, drop, map}
use Rattle.x5_model_messages.specs.Shadows as shadows
use Rattle.x5_types.specs.NodeView.{node_view}
use Rattle.x5_dispber.proofs.entries.attributes_node.Given as goal

abbrev pub invariant-loop-attribute : goal.invariant-loop-attribute
invariant-loop-attribute l =
    map node_view l.nodes.items ++ map shadows.stored_node (drop l.attribute-index l.attributes)
    ≡ map shadows.stored_node l.attributes
