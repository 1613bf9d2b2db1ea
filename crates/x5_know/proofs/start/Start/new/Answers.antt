-- The year bounds the day.
use Rattle.std.proofs.Common.{◌<◌, arith, pos, ◌≤ℤ◌}
use Rattle.jiff_core.proofs.SignedLemmas.{signed_arith}
use Rattle.x5_know.proofs.Days.{until_9000}
use Rattle.x5_know.proofs.start.Start.new.Goals as goal

pub invariant_of-result : goal.invariant_of-result
invariant_of-result c =
    let second : c.args.second < 86_400 = omega (arith, c.from.ensures, c.if-from-ge-DAY.false) in
    let year : c.args.date.year ≤ℤ pos 9000 = omega (arith, signed_arith, c.year-year.ensures, c.if-year-gt9000.false) in
    let first : pos 0 ≤ℤ c.args.date.year = omega (arith, signed_arith, c.year-year.ensures, c.if-year-lt1900.false) in
    (second, until_9000 c.args.date year, first)
