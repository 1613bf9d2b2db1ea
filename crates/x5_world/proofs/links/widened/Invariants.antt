-- What is there so far are the numbers so far.
use Rattle.std.proofs.Common.{◌≡◌, take}
use Rattle.x5_world.proofs.links.widened.Given as goal

abbrev pub invariant-loop-number : goal.invariant-loop-number
invariant-loop-number l = l.wide.items ≡ take l.number-index l.numbers
