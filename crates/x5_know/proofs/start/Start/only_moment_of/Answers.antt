-- A text that a moment has says the moment.
use Rattle.std.proofs.Common.{◌≡◌, ℕ, ◌+◌, ◌/◌, ◌%◌, ◌<◌, Bool, true, false, sym, ap, subst, ◌∙◌, arith, pos, ◌+ℤ◌}
use Rattle.jiff_core.specs.declared.civil.date.Date.{Date}
use Rattle.jiff_core.specs.Date.{epoch_day}
use Rattle.x5_model.specs.Words.{same_octets}
use Rattle.x5_know.specs.Moments.{Start, day_of, moment_text}
use Rattle.x5_know.proofs.Stamps.{IsText, text_of, stamp_length, same_number}
use Rattle.x5_know.proofs.start.Start.only_moment_of.Goals as goal

pub returns-then-octets-ne15-clause-only : goal.returns-then-octets-ne15-clause-only
returns-then-octets-ne15-clause-only c = λ m few same.
    let start = c.self.inside.date in
    let s = c.self.inside.second in
    let t = text_of start s m c.args.octets.now c.self.invariant.0 c.self.invariant.1 c.self.invariant.2 few
    (subst (λ (s : Start). same_octets (moment_text s m) c.args.octets.now ≡ true) (sym c.self.view_is) same) in
    absurd (c.if-octets-ne15.true (stamp_length c.args.octets.now (day_of t.later) ((s + m) % 86_400) t.is))

pub returns-in_err-date-clause-only : goal.returns-in_err-date-clause-only
returns-in_err-date-clause-only c = λ m few same.
    let start = c.self.inside.date in
    let s = c.self.inside.second in
    let t = text_of start s m c.args.octets.now c.self.invariant.0 c.self.invariant.1 c.self.invariant.2 few
    (subst (λ (s : Start). same_octets (moment_text s m) c.args.octets.now ≡ true) (sym c.self.view_is) same) in
    let f = c.in_err-date.ensures t.later ((s + m) % 86_400) t.year t.is in
    absurd (cc f.1)

pub returns-in_err-days-clause-only : goal.returns-in_err-days-clause-only
returns-in_err-days-clause-only c = λ m few same.
    let start = c.self.inside.date in
    let s = c.self.inside.second in
    let t = text_of start s m c.args.octets.now c.self.invariant.0 c.self.invariant.1 c.self.invariant.2 few
    (subst (λ (s : Start). same_octets (moment_text s m) c.args.octets.now ≡ true) (sym c.self.view_is) same) in
    let f = c.in_ok-date.ensures t.later ((s + m) % 86_400) t.year t.is in
    let date : c.in_ok-date.date ≡ f.0 = cc f.1 in
    let number : epoch_day c.in_ok-date.date ≡ epoch_day start +ℤ pos ((s + m) / 86_400) =
    ap (λ (d : Date). epoch_day d) date ∙ same_number f.0 t.later f.2 ∙ t.number in
    absurd (cc (c.in_err-days.ensures.only ((s + m) / 86_400) number))

pub returns-clause-only : goal.returns-clause-only
returns-clause-only c = λ m few same.
    let start = c.self.inside.date in
    let s = c.self.inside.second in
    let t = text_of start s m c.args.octets.now c.self.invariant.0 c.self.invariant.1 c.self.invariant.2 few
    (subst (λ (s : Start). same_octets (moment_text s m) c.args.octets.now ≡ true) (sym c.self.view_is) same) in
    let f = c.in_ok-date.ensures t.later ((s + m) % 86_400) t.year t.is in
    let date : c.in_ok-date.date ≡ f.0 = cc f.1 in
    let number : epoch_day c.in_ok-date.date ≡ epoch_day start +ℤ pos ((s + m) / 86_400) =
    ap (λ (d : Date). epoch_day d) date ∙ same_number f.0 t.later f.2 ∙ t.number in
    let days : c.in_ok-days.days ≡ (s + m) / 86_400 = cc (c.in_ok-days.ensures.only ((s + m) / 86_400) number) in
    c.passed.ensures.only m few days (c.second_at.ensures.value (day_of t.later) ((s + m) % 86_400) (omega arith) t.is)
