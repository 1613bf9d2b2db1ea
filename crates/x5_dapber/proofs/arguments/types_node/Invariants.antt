-- The types so far, and then the others.
use Rattle.std.proofs.Common.{◌≡◌, ◌++◌, drop, map}
use Rattle.x5_model_messages.specs.Terms as terms
use Rattle.x5_syntax.specs.TypeView.{type_view}
use Rattle.x5_types.specs.NodeView.{node_view}
use Rattle.x5_dapber.proofs.arguments.types_node.Given as goal

abbrev pub invariant-loop-kind : goal.invariant-loop-kind
invariant-loop-kind l =
    map node_view l.nodes.items ++ map terms.type_node (map type_view (drop l.kind-index l.kinds))
    ≡ map terms.type_node (map type_view l.kinds)
