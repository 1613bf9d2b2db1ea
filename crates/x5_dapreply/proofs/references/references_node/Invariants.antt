-- The references so far, and then the others.
use Rattle.std.proofs.Common.{◌≡◌, ◌++◌, drop, map}
use Rattle.x5_model_messages.specs.Replies as replies
use Rattle.x5_dapreply.specs.ReplyViews.{told_reference}
use Rattle.x5_types.specs.NodeView.{node_view}
use Rattle.x5_dapreply.proofs.references.references_node.Given as goal

abbrev pub invariant-loop-reference : goal.invariant-loop-reference
invariant-loop-reference l =
    map node_view l.nodes.items ++ map replies.reference_node (map told_reference (drop l.reference-index l.references))
    ≡ map replies.reference_node (map told_reference l.references)
