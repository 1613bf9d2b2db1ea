-- The parts so far, and then the others.
use Rattle.std.proofs.Common.{◌≡◌, ◌++◌, drop, map}
use Rattle.x5_model_messages.specs.FilterTerms as terms
use Rattle.x5_types.specs.NodeView.{node_view}
use Rattle.x5_dapber.proofs.filters.pieces_node.Given as goal

abbrev pub invariant-loop-piece : goal.invariant-loop-piece
invariant-loop-piece l =
    map node_view l.nodes.items ++ map terms.piece_node (drop l.piece-index l.pieces) ≡ map terms.piece_node l.pieces
