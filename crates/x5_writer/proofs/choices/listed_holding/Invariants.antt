-- The first that can hold the value is the first of those that are left.
use Rattle.std.proofs.Common.{◌≡◌, drop}
use Rattle.std.specs.List.{find}
use Rattle.x5_model_typed.specs.Written as written
use Rattle.x5_types.specs.FormView.{around, types_view}
use Rattle.x5_types.specs.NodeView.{node_view}
use Rattle.x5_writer.proofs.choices.listed_holding.Given as goal

abbrev pub invariant-loop-a : goal.invariant-loop-a
invariant-loop-a l = find (written.can_hold (node_view l.node)) (types_view (around l.surroundings) (drop l.a-index l.types)) ≡ find (written.can_hold (node_view l.node)) (types_view (around l.surroundings) l.types)
