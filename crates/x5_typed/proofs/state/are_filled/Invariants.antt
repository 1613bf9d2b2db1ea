-- All are filled where those that are left are.
use Rattle.std.proofs.Common.{◌≡◌, drop, map}
use Rattle.x5_model_typed.specs.Judged as judged
use Rattle.x5_types.specs.NodeView.{option_view}
use Rattle.x5_typed.specs.StateView.{left_view}
use Rattle.x5_typed.proofs.state.are_filled.Given as goal

abbrev pub invariant-loop-i : goal.invariant-loop-i
invariant-loop-i l = judged.all_filled (drop l.i (left_view l.left)) (drop l.i (map option_view l.slots))
    ≡ judged.all_filled (left_view l.left) (map option_view l.slots)
