-- What is awaited of all components is what is awaited of those that are left.
use Rattle.std.proofs.Common.{◌≡◌, drop, map}
use Rattle.x5_model_typed.specs.Judged as judged
use Rattle.x5_model_typed.specs.Layouts.{Surroundings, layout}
use Rattle.x5_typed.proofs.slots.set_awaits.Given as goal
use Rattle.x5_types.specs.NodeView.{option_view}
use Rattle.x5_typed.specs.StateView.{left_view}

abbrev pub invariant-loop-i : goal.invariant-loop-i
invariant-loop-i l = (w : Surroundings) → judged.set_awaits (layout w) l.at l.class l.tag l.i (drop l.i (left_view l.left)) (drop l.i (map option_view l.slots))
    ≡ judged.set_awaits (layout w) l.at l.class l.tag 0 (left_view l.left) (map option_view l.slots)
