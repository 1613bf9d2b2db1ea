-- The parts so far, and then the others.
use Rattle.std.proofs.Common.{◌≡◌, ◌++◌, drop, map}
use Rattle.x5_model_messages.specs.FilterTerms as terms
use Rattle.x5_types.specs.NodeView.{node_view}
use Rattle.x5_dapber.proofs.read_filters.pieces_in.Given as goal

abbrev pub invariant-loop-node : goal.invariant-loop-node
invariant-loop-node l =
    l.pieces ++ map terms.piece_in (map node_view (drop l.node-index l.nodes))
    ≡ map terms.piece_in (map node_view l.nodes)
