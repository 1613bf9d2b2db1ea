-- The number 1 is the limit, and nothing stands behind it.
use Rattle.std.proofs.Common.{◌≡◌, true, rules, arith}
use Rattle.x5_dapreply.proofs.AnswerSpelling.{limit_whole}
use Rattle.x5_dapreply.proofs.direct_parts.limit_if.Goals as goal

pub returns : goal.returns
returns c =
    let there : c.args.there ≡ true = search rules in
    limit_whole c.args.there c.args.octets.now c.in-Some.rest.now there c.in-Some.ensures
    (omega (arith, c.if-rest-gt0.false))
