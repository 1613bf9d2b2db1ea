-- The types so far, and then those of the other nodes.
use Rattle.std.proofs.Common.{◌≡◌, ◌++◌, drop, map}
use Rattle.x5_model_messages.specs.Terms as terms
use Rattle.x5_syntax.specs.TypeView.{type_view}
use Rattle.x5_types.specs.NodeView.{node_view}
use Rattle.x5_dapber.proofs.read_arguments.types_in.Given as goal

abbrev pub invariant-loop-node : goal.invariant-loop-node
invariant-loop-node l =
    map type_view l.kinds ++ map terms.type_in (map node_view (drop l.node-index l.nodes))
    ≡ map terms.type_in (map node_view l.nodes)
