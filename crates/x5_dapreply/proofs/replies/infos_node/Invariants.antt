-- The entries so far, and then the others.
use Rattle.std.proofs.Common.{◌≡◌, ◌++◌, drop, map}
use Rattle.x5_model_messages.specs.Replies as replies
use Rattle.x5_ops.specs.AnswerViews.{info_view}
use Rattle.x5_types.specs.NodeView.{node_view}
use Rattle.x5_dapreply.proofs.replies.infos_node.Given as goal

abbrev pub invariant-loop-info : goal.invariant-loop-info
invariant-loop-info l =
    map node_view l.nodes.items ++ map replies.info_node (map info_view (drop l.info-index l.infos))
    ≡ map replies.info_node (map info_view l.infos)
