-- Some attribute has the type where one of those that are left has.
use Rattle.std.proofs.Common.{◌≡◌, drop, map}
use Rattle.x5_model.specs.Words.{has}
use Rattle.x5_model_typed.specs.Rules as rules
use Rattle.x5_types.specs.NodeView.{node_view}
use Rattle.x5_rules.proofs.entry.has_type.Given as goal

abbrev pub invariant-loop-other : goal.invariant-loop-other
invariant-loop-other l = has rules.same_attribute (map node_view (drop l.other-index l.nodes)) (node_view l.node)
    ≡ has rules.same_attribute (map node_view l.nodes) (node_view l.node)
