-- The place among all is so many on as the place among those that are left.
use Rattle.std.proofs.Common.{◌≡◌, ◌+◌, not, drop, map}
use Rattle.std.specs.List.{position_or_len}
use Rattle.x5_model_typed.specs.Rules as rules
use Rattle.x5_types.specs.NodeView.{node_view}
use Rattle.x5_rules.proofs.entry.place_of_type.Given as goal

abbrev pub invariant-loop-i : goal.invariant-loop-i
invariant-loop-i l =
    l.i + position_or_len (λ y. not (rules.attribute_below y (node_view l.node))) (map node_view (drop l.i l.nodes))
    ≡ position_or_len (λ y. not (rules.attribute_below y (node_view l.node))) (map node_view l.nodes)
