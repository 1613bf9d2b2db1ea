-- The RDNs of the parts so far, and then those of the others.
use Rattle.std.proofs.Common.{◌≡◌, ◌++◌, drop, map}
use Rattle.x5_model_typed.specs.Rules as rules
use Rattle.x5_types.specs.NodeView.{node_view}
use Rattle.x5_rules.proofs.name.name_in.Given as goal

abbrev pub invariant-loop-part : goal.invariant-loop-part
invariant-loop-part l = l.rdns.items ++ map rules.rdn_in (map node_view (drop l.part-index l.parts))
    ≡ rules.name_in (node_view l.node)
