-- The values so far, and then the others.
use Rattle.std.proofs.Common.{◌≡◌, ◌++◌, drop, map}
use Rattle.x5_model_messages.specs.Terms as terms
use Rattle.x5_types.specs.NodeView.{node_view}
use Rattle.x5_dispber.proofs.entries.values_node.Given as goal

abbrev pub invariant-loop-stored : goal.invariant-loop-stored
invariant-loop-stored l =
    map node_view l.nodes.items ++ map (λ v. terms.value_node v.value) (drop l.stored-index l.values)
    ≡ map (λ v. terms.value_node v.value) l.values
