-- The values so far, and then the others.
use Rattle.std.proofs.Common.{◌≡◌, ◌++◌, drop, map}
use Rattle.x5_model_messages.specs.Terms as terms
use Rattle.x5_syntax.specs.ValueView.{value_view}
use Rattle.x5_types.specs.NodeView.{node_view}
use Rattle.x5_dapber.proofs.values.values_node.Given as goal

abbrev pub invariant-loop-value : goal.invariant-loop-value
invariant-loop-value l =
    map node_view l.nodes.items ++ map (λ v. terms.value_node (value_view v)) (drop l.value-index l.values)
    ≡ map (λ v. terms.value_node (value_view v)) l.values
