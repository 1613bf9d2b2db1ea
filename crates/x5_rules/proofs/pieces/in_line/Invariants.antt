-- All stand in line where those from the last one on do.
use Rattle.std.proofs.Common.{◌≡◌, ◌-◌, drop, map}
use Rattle.x5_model_typed.specs.Rules as rules
use Rattle.x5_types.specs.NodeView.{node_view}
use Rattle.x5_rules.proofs.pieces.in_line.Given as goal

abbrev pub invariant-loop-i : goal.invariant-loop-i
invariant-loop-i l = rules.in_line (map node_view (drop (l.i - 1) l.parts)) ≡ rules.in_line
    (map node_view l.parts)
