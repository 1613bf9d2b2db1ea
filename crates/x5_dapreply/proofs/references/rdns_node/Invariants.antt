-- The RDNs so far, and then the others.
use Rattle.std.proofs.Common.{◌≡◌, ◌++◌, drop, map}
use Rattle.x5_model_messages.specs.Terms as terms
use Rattle.x5_types.specs.NodeView.{node_view}
use Rattle.x5_dapreply.proofs.references.rdns_node.Given as goal

abbrev pub invariant-loop-rdn : goal.invariant-loop-rdn
invariant-loop-rdn l =
    map node_view l.nodes.items ++ map terms.rdn_node (drop l.rdn-index l.rdns) ≡ map terms.rdn_node l.rdns
