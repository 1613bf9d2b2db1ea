-- All are masters where those that are left are.
use Rattle.std.proofs.Common.{◌≡◌, not, drop, map}
use Rattle.std.specs.List.{list_all}
use Rattle.x5_model_typed.specs.Rules as rules
use Rattle.x5_types.specs.NodeView.{node_view}
use Rattle.x5_rules.proofs.known.are_masters.Given as goal

abbrev pub invariant-loop-node : goal.invariant-loop-node
invariant-loop-node l = list_all (λ a. not (rules.is_copy a)) (map node_view (drop l.node-index l.nodes))
    ≡ list_all (λ a. not (rules.is_copy a)) (map node_view l.nodes)
