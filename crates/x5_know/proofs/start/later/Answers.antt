-- Within the calendar, days that are added are all counted.
use Rattle.std.proofs.Common.{◌≡◌, ◌∙◌, ap, arith, pos, ◌+ℤ◌, FitsSigned, w64}
use Rattle.std.proofs.lemmas.Int.{to_z-of_z}
use Rattle.jiff_core.specs.Date.{epoch_day}
use Rattle.jiff_core.proofs.DateLemmas.{epoch_day_range}
use Rattle.jiff.proofs.SpanFacts.{signed_arith, date_add-days, can_add-days}
use Rattle.x5_know.proofs.start.later.Goals as goal

pub returns : goal.returns
returns c =
    let range = epoch_day_range c.args.date in
    let number : c.from.result ≡ pos c.args.days = c.from.ensures in
    let fits : FitsSigned w64 c.from.result = omega (arith, signed_arith, number, c.requires.count) in
    let only = simp to_z-of_z at c.days.ensures in
    let can = can_add-days c.args.date c.from.result c.days.result only in
    c.saturating_add.ensures.fits (can.1 (omega (arith, signed_arith, number, c.requires.range, c.requires.count)))
    ∙ date_add-days c.args.date c.from.result c.days.result only
    ∙ ap (λ n. epoch_day c.args.date +ℤ n) number
