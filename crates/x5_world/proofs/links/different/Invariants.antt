-- What is counted are the different numbers of those from the place on.
use Rattle.std.proofs.Common.{◌≡◌, ◌+◌, ◌≤◌, length, drop}
use Rattle.x5_model_run.specs.Stage.{once_each}
use Rattle.x5_world.proofs.links.different.Given as goal

abbrev pub invariant-loop-at : goal.invariant-loop-at
invariant-loop-at l = (l.count ≡ length (once_each (drop l.at l.numbers))) × (l.count + l.at ≤ length l.numbers)

abbrev pub decreases-loop-at : goal.decreases-loop-at
decreases-loop-at l = l.at
