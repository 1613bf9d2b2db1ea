-- The last three pairs of digits are hours, minutes and seconds.
use Rattle.std.proofs.Common.{◌≡◌, ap₂, arith}
use Rattle.x5_know.proofs.Stamps.{second_says}
use Rattle.x5_know.proofs.start.second_at.Goals as goal

pub returns-clause-value : goal.returns-clause-value
returns-clause-value c = λ day second small e.
    omega (arith, second_says c.args.octets.now day second e small, c.two_at.ensures.value, c.two_at-2.ensures.value, c.two_at-3.ensures.value)
