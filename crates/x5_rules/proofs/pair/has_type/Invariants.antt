-- Some pair has the type where one of those that are left has.
use Rattle.std.proofs.Common.{◌≡◌, drop, map}
use Rattle.x5_model.specs.Words.{has}
use Rattle.x5_model_typed.specs.Rules as rules
use Rattle.x5_types.specs.NodeView.{node_view}
use Rattle.x5_rules.proofs.pair.has_type.Given as goal

abbrev pub invariant-loop-node : goal.invariant-loop-node
invariant-loop-node l = has rules.same_type (map node_view (drop l.node-index l.nodes)) (node_view l.first)
    ≡ has rules.same_type (map node_view l.nodes) (node_view l.first)
