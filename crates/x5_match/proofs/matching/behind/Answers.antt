-- What is left behind the part where it stands at the front is the answer, and where it doesn't stand there, the search
-- goes on one octet later: by the definition of the first occurrence, which tests the front first.
use Rattle.std.proofs.Common.{◌≡◌, ◌∙◌, sym, ap, Some, true, false, nat_eq, rules}
use Rattle.std.specs.List.{starts_with}
use Rattle.x5_match.proofs.OccurrenceLemmas.{occurrence-here, occurrence-later}
use Rattle.x5_match.proofs.matching.behind.Goals as goal

pub returns-in-Some : goal.returns-in-Some
returns-in-Some c =
    let k : starts_with nat_eq c.loop-behind.rest.now c.args.part.now ≡ true = search rules in
    ap Some c.in-Some.ensures.cases.1 ∙ sym (occurrence-here c.args.part.now c.loop-behind.rest.now k) ∙ c.loop-behind.invariant

pub loop-behind-preserved : goal.loop-behind-preserved
loop-behind-preserved c =
    let k : starts_with nat_eq c.loop-behind.rest.now c.args.part.now ≡ false = search rules in
    occurrence-later c.args.part.now c.loop-behind.rest.now k c.in-len1-up.len_at_least ∙ c.loop-behind.invariant
