-- The entries so far, and then those of the other nodes.
use Rattle.std.proofs.Common.{◌≡◌, ◌++◌, drop, map}
use Rattle.x5_model_messages.specs.Replies as replies
use Rattle.x5_ops.specs.AnswerViews.{sub_view}
use Rattle.x5_types.specs.NodeView.{node_view}
use Rattle.x5_dapreply.proofs.read_replies.subs_in.Given as goal

abbrev pub invariant-loop-node : goal.invariant-loop-node
invariant-loop-node l =
    map sub_view l.subs.items ++ map replies.sub_in (map node_view (drop l.node-index l.nodes))
    ≡ map replies.sub_in (map node_view l.nodes)
