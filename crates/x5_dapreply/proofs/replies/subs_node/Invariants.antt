-- The entries so far, and then the others.
use Rattle.std.proofs.Common.{◌≡◌, ◌++◌, drop, map}
use Rattle.x5_model_messages.specs.Replies as replies
use Rattle.x5_ops.specs.AnswerViews.{sub_view}
use Rattle.x5_types.specs.NodeView.{node_view}
use Rattle.x5_dapreply.proofs.replies.subs_node.Given as goal

abbrev pub invariant-loop-sub : goal.invariant-loop-sub
invariant-loop-sub l =
    map node_view l.nodes.items ++ map replies.sub_node (map sub_view (drop l.sub-index l.subs))
    ≡ map replies.sub_node (map sub_view l.subs)
