-- The attributes so far, and then the others.
use Rattle.std.proofs.Common.{◌≡◌, ◌++◌, drop, map}
use Rattle.x5_model_messages.specs.Replies as replies
use Rattle.x5_ops.specs.AnswerViews.{shown_view}
use Rattle.x5_types.specs.NodeView.{node_view}
use Rattle.x5_dapreply.proofs.replies.all_shown_node.Given as goal

abbrev pub invariant-loop-attribute : goal.invariant-loop-attribute
invariant-loop-attribute l =
    map node_view l.nodes.items ++ map replies.shown_node (map shown_view (drop l.attribute-index l.attributes))
    ≡ map replies.shown_node (map shown_view l.attributes)
