-- The pairs so far, and then those of the others.
use Rattle.std.proofs.Common.{◌≡◌, ◌++◌, drop, map}
use Rattle.x5_model_messages.specs.Terms as terms
use Rattle.x5_types.specs.NodeView.{node_view}
use Rattle.x5_dapber.proofs.names.written_rdn_node.Given as goal

abbrev pub invariant-loop-pair : goal.invariant-loop-pair
invariant-loop-pair l =
    map node_view l.pairs.items ++ map terms.pair_node (drop l.pair-index l.pair-items) ≡ map terms.pair_node l.rdn
