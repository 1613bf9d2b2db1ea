-- The RDNs so far, and then those of the other nodes.
use Rattle.std.proofs.Common.{◌≡◌, ◌++◌, drop, map}
use Rattle.x5_model_messages.specs.Terms as terms
use Rattle.x5_types.specs.NodeView.{node_view}
use Rattle.x5_dapreply.proofs.read_references.rdns_in.Given as goal

abbrev pub invariant-loop-node : goal.invariant-loop-node
invariant-loop-node l =
    l.rdns ++ map terms.rdn_of (map node_view (drop l.node-index l.nodes))
    ≡ map terms.rdn_of (map node_view l.nodes)
