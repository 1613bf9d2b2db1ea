-- What is there so far are the later ones of the numbers so far.
use Rattle.std.proofs.Common.{◌≡◌, take, nat_lt}
use Rattle.std.specs.List.{filter}
use Rattle.x5_world.proofs.links.later.Given as goal

abbrev pub invariant-loop-number : goal.invariant-loop-number
invariant-loop-number l = l.more.items ≡ filter (λ n. nat_lt l.sent n) (take l.number-index l.numbers)
