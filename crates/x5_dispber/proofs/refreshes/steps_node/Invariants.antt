-- The changes so far, and then the others.
use Rattle.std.proofs.Common.{◌≡◌, ◌++◌, drop, map}
use Rattle.x5_model_messages.specs.Shadows as shadows
use Rattle.x5_types.specs.NodeView.{node_view}
use Rattle.x5_dispber.specs.ShadowViews.{told_step}
use Rattle.x5_dispber.proofs.refreshes.steps_node.Given as goal

abbrev pub invariant-loop-step : goal.invariant-loop-step
invariant-loop-step l =
    map node_view l.nodes.items ++ map shadows.step_node (map told_step (drop l.step-index l.steps))
    ≡ map shadows.step_node (map told_step l.steps)
