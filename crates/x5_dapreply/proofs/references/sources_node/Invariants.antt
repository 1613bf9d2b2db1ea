-- The sources so far, and then the others.
use Rattle.std.proofs.Common.{◌≡◌, ◌++◌, drop, map}
use Rattle.x5_model_messages.specs.Replies as replies
use Rattle.x5_dapreply.specs.ReplyViews.{told_source}
use Rattle.x5_types.specs.NodeView.{node_view}
use Rattle.x5_dapreply.proofs.references.sources_node.Given as goal

abbrev pub invariant-loop-source : goal.invariant-loop-source
invariant-loop-source l =
    map node_view l.nodes.items ++ map replies.source_node (map told_source (drop l.source-index l.sources))
    ≡ map replies.source_node (map told_source l.sources)
