-- The id and the name are the reply's.
use Rattle.x5_dapreply.proofs.AnswerSpelling.{unmatched_read}
use Rattle.x5_dapreply.proofs.direct.unmatched_in.Goals as goal

pub returns : goal.returns
returns c =
    unmatched_read c.in_ok-id.id c.in_ok-matched.matched c.args.octets.now c.in_ok-content.content.now
    c.in_ok-id.left.now
    c.in-Some.error.now c.in_ok-inside.inside.now c.in-Some-after.name.now c.in_ok-content.ensures c.in_ok-id.ensures
    c.in-Some.ensures c.in_ok-inside.ensures c.in-Some-after.ensures c.in_ok-matched.ensures
