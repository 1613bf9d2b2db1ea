-- The references so far, and then the others.
use Rattle.std.proofs.Common.{◌≡◌, ◌++◌, drop, map}
use Rattle.x5_model_messages.specs.Shadows as shadows
use Rattle.x5_types.specs.NodeView.{node_view}
use Rattle.x5_dispber.specs.ShadowViews.{told_other}
use Rattle.x5_dispber.proofs.refreshes.others_node.Given as goal

abbrev pub invariant-loop-nssr : goal.invariant-loop-nssr
invariant-loop-nssr l =
    map node_view l.nodes.items ++ map shadows.non_specific_node (map (told_other l.names) (drop l.nssr-index l.nssrs))
    ≡ map shadows.non_specific_node (map (told_other l.names) l.nssrs)
