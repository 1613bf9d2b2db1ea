-- The text is that of the day, and of the second of it.
use Rattle.std.proofs.Common.{◌≡◌, ◌∙◌, ap, ap₂, ◌+◌, ◌/◌, ◌%◌}
use Rattle.x5_know.specs.Moments.{Start, day_of, days_after, stamp_text}
use Rattle.x5_know.proofs.start.Start.moment_text.Goals as goal

pub returns : goal.returns
returns c =
    let second : c.self.inside.second ≡ c.args.self.now.second = ap (λ (s : Start). s.second) c.self.view_is in
    let day : day_of c.self.inside.date ≡ c.args.self.now.day = ap (λ (s : Start). s.day) c.self.view_is in
    let passed : c.from.result + c.from-2.result ≡ c.args.self.now.second + c.args.moment = ap₂ ◌+◌ (c.from.ensures ∙ second) (c.from-2.ensures ∙ c.moment.view_is) in
    c.from_string.ensures
    ∙ c.in_ok-text.ensures
    ∙ ap₂ stamp_text (c.later_day-date.ensures ∙ ap₂ days_after (ap (λ n. n / 86_400) passed) day) (ap (λ n. n % 86_400) passed)
