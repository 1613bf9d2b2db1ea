-- The values so far, and then those of the other nodes.
use Rattle.std.proofs.Common.{◌≡◌, ◌++◌, drop, map}
use Rattle.x5_model_messages.specs.Shadows as shadows
use Rattle.x5_model_typed.specs.Rules as rules
use Rattle.x5_types.specs.NodeView.{node_view}
use Rattle.x5_dispber.proofs.read_entries.stored_values_in.Given as goal

abbrev pub invariant-loop-node : goal.invariant-loop-node
invariant-loop-node l =
    l.values.items ++ map (λ v. shadows.stored_value l.kind (rules.value_in v)) (map node_view (drop l.node-index l.nodes))
    ≡ map (λ v. shadows.stored_value l.kind (rules.value_in v)) (map node_view l.nodes)
