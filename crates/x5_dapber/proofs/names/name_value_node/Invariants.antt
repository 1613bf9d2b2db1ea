-- The RDNs so far, and then those of the others.
use Rattle.std.proofs.Common.{◌≡◌, ◌++◌, drop, map}
use Rattle.x5_model_messages.specs.Terms as terms
use Rattle.x5_types.specs.NodeView.{node_view}
use Rattle.x5_dapber.proofs.names.name_value_node.Given as goal

abbrev pub invariant-loop-rdn : goal.invariant-loop-rdn
invariant-loop-rdn l =
    map node_view l.rdns.items ++ map terms.pairs_node (drop l.rdn-index l.rdn-items) ≡ map terms.pairs_node l.name
