-- The entries so far, and then the others.
use Rattle.std.proofs.Common.{◌≡◌, ◌++◌, drop, map}
use Rattle.x5_model_messages.specs.Shadows as shadows
use Rattle.x5_types.specs.NodeView.{node_view}
use Rattle.x5_dispber.proofs.entries.entries_node.Given as goal

abbrev pub invariant-loop-entry : goal.invariant-loop-entry
invariant-loop-entry l =
    map node_view l.nodes.items ++ map shadows.entry_node (drop l.entry-index l.entries)
    ≡ map shadows.entry_node l.entries
