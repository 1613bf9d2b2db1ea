-- All have copies where those that are left have.
use Rattle.std.proofs.Common.{◌≡◌, drop, map}
use Rattle.std.specs.List.{list_all}
use Rattle.x5_model_typed.specs.Rules as rules
use Rattle.x5_types.specs.NodeView.{node_view}
use Rattle.x5_rules.proofs.known.are_copies.Given as goal

abbrev pub invariant-loop-node : goal.invariant-loop-node
invariant-loop-node l = list_all rules.is_copy (map node_view (drop l.node-index l.nodes)) ≡ list_all rules.is_copy (map node_view l.nodes)
