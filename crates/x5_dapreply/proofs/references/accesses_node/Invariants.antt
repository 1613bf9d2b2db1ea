-- The agents so far, and then the others.
use Rattle.std.proofs.Common.{◌≡◌, ◌++◌, drop, map}
use Rattle.x5_model_messages.specs.Replies as replies
use Rattle.x5_dapreply.specs.ReplyViews.{told_access}
use Rattle.x5_types.specs.NodeView.{node_view}
use Rattle.x5_dapreply.proofs.references.accesses_node.Given as goal

abbrev pub invariant-loop-access : goal.invariant-loop-access
invariant-loop-access l =
    map node_view l.nodes.items ++ map replies.access_node (map told_access (drop l.access-index l.agents))
    ≡ map replies.access_node (map told_access l.agents)
