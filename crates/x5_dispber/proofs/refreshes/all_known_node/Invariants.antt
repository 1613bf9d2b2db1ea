-- The references so far, and then the others.
use Rattle.std.proofs.Common.{◌≡◌, ◌++◌, drop, map}
use Rattle.x5_model_messages.specs.Shadows as shadows
use Rattle.x5_types.specs.NodeView.{node_view}
use Rattle.x5_dispber.specs.ShadowViews.{told_known}
use Rattle.x5_dispber.proofs.refreshes.all_known_node.Given as goal

abbrev pub invariant-loop-one : goal.invariant-loop-one
invariant-loop-one l =
    map node_view l.nodes.items ++ map shadows.known_node (map (told_known l.names) (drop l.one-index l.known))
    ≡ map shadows.known_node (map (told_known l.names) l.known)
