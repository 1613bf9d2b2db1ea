-- The stored pairs of the parts so far, and then those of the others.
use Rattle.std.proofs.Common.{◌≡◌, ◌++◌, drop, map}
use Rattle.x5_model.specs.Normal.{stored_rdn}
use Rattle.x5_model_typed.specs.Rules as rules
use Rattle.x5_types.specs.NodeView.{node_view}
use Rattle.x5_rules.proofs.name.rdn_of.Given as goal

abbrev pub invariant-loop-part : goal.invariant-loop-part
invariant-loop-part l = l.pairs.items ++ stored_rdn (map rules.pair_in (map node_view (drop l.part-index l.parts)))
    ≡ stored_rdn (rules.rdn_in (node_view l.node))
