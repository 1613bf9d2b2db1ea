-- Those before are prepared, and the others are left.
use Rattle.std.proofs.Common.{◌≡◌, ◌++◌}
use Rattle.std.specs.Vec.Iter.{into_iter_items}
use Rattle.x5_consume.specs.Ready.{ArePrepared, steps_in}
use Rattle.x5_consume.proofs.preparing.all_prepared.Given as goal

abbrev pub invariant-loop-step : goal.invariant-loop-step
invariant-loop-step l = (steps_in l.all.items ++ into_iter_items l.step-iterator ≡ l.fn.steps) × ArePrepared l.all.items
