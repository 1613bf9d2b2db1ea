-- Behind the code of an update stands NULL.
use Rattle.std.proofs.Common.{arith}
use Rattle.x5_dapreply.proofs.AnswerSpelling.{changed_whole}
use Rattle.x5_dapreply.proofs.direct.changed_in.Goals as goal

pub returns : goal.returns
returns c =
    changed_whole c.args.body.now c.in-Some.rest.now c.in-Some.ensures
    (omega (arith, c.in-len3.len_at_least, c.in-len3.len_below)) (omega (arith, c.if-code-lt6.false))
    (omega (arith, c.if-code-gt9.false)) (omega (arith, c.if-null-ne5.false)) (omega (arith, c.if-length-ne0.false))
