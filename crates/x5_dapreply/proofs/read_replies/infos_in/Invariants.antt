-- The entries so far, and then those of the other nodes.
use Rattle.std.proofs.Common.{◌≡◌, ◌++◌, drop, map}
use Rattle.x5_model_messages.specs.Replies as replies
use Rattle.x5_ops.specs.AnswerViews.{info_view}
use Rattle.x5_types.specs.NodeView.{node_view}
use Rattle.x5_dapreply.proofs.read_replies.infos_in.Given as goal

abbrev pub invariant-loop-node : goal.invariant-loop-node
invariant-loop-node l =
    map info_view l.entries.items ++ map replies.info_in (map node_view (drop l.node-index l.nodes))
    ≡ map replies.info_in (map node_view l.nodes)
