-- The values so far, and then the others.
use Rattle.std.proofs.Common.{◌≡◌, ◌++◌, drop, map}
use Rattle.x5_model_typed.specs.Rules as rules
use Rattle.x5_syntax.specs.ValueView.{value_view}
use Rattle.x5_types.specs.NodeView.{node_view}
use Rattle.x5_dapber.proofs.read_values.values_in.Given as goal

abbrev pub invariant-loop-node : goal.invariant-loop-node
invariant-loop-node l =
    map value_view l.values.items ++ map rules.value_in (map node_view (drop l.node-index l.nodes))
    ≡ map rules.value_in (map node_view l.nodes)
