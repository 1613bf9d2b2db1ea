-- The moment is the only one whose text the octets can be, and it is where they are.
use Rattle.std.proofs.Common.{◌≡◌, ℕ, ◌<◌, Bool, List, true, false, sym, ap, ◌∙◌, arith}
use Rattle.x5_model.specs.Words.{same_octets}
use Rattle.x5_know.specs.Moments.{moment_count, moment_text}
use Rattle.x5_know.proofs.Stamps.{count_is, none_below, found_moment}
use Rattle.x5_know.proofs.start.Start.moment_of.Goals as goal

pub returns-in_default : goal.returns-in_default
returns-in_default c = sym (none_below (λ m. same_octets (moment_text c.args.self.now m) c.args.octets.now) moment_count
    (λ m few same. cc (c.in_default.ensures.only m (omega (arith, few, count_is)) same)))

pub returns : goal.returns
returns c =
    let text : c.as_bytes.result.now ≡ moment_text c.args.self.now c.in-Some.moment =
    cc (c.as_bytes.ensures.value, c.as_str.ensures, c.in_ok-text.ensures) in
    c.if_same.ensures
    ∙ found_moment (λ m. same_octets (moment_text c.args.self.now m) c.args.octets.now) moment_count c.in-Some.moment
    (same_octets c.as_bytes.result.now c.args.octets.now)
    (ap (λ (l : List ℕ). same_octets l c.args.octets.now) text) (omega (arith, c.in-Some.ensures.few, count_is))
    (λ k less holds. cc (c.in-Some.ensures.only k (omega (arith, less, count_is)) holds))
