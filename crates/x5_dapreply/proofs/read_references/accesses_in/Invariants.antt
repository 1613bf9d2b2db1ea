-- The agents so far, and then those of the other nodes.
use Rattle.std.proofs.Common.{◌≡◌, ◌++◌, drop, map}
use Rattle.x5_dapreply.specs.ReplyViews.{told_access}
use Rattle.x5_model_messages.specs.Replies as replies
use Rattle.x5_types.specs.NodeView.{node_view}
use Rattle.x5_dapreply.proofs.read_references.accesses_in.Given as goal

abbrev pub invariant-loop-node : goal.invariant-loop-node
invariant-loop-node l =
    map told_access l.agents ++ map replies.access_in (map node_view (drop l.node-index l.nodes))
    ≡ map replies.access_in (map node_view l.nodes)
