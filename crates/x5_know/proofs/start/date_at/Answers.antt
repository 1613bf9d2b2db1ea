-- The digits are those of the date, which the calendar has.
use Rattle.std.proofs.Common.{arith}
use Rattle.x5_know.proofs.Stamps.{found_date}
use Rattle.x5_know.proofs.start.date_at.Goals as goal

pub returns : goal.returns
returns c = λ date second first e. found_date c.args.octets.now date second _ _ _ c.date_of.result first e
    (omega (arith, c.two_at.ensures.value, c.two_at-2.ensures.value)) c.two_at-3.ensures.value c.two_at-4.ensures.value
    c.date_of.ensures.there c.date_of.ensures.value
