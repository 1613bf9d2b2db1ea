-- The id and the result are the reply's.
use Rattle.x5_dapreply.specs.ReplyViews.{told_answer}
use Rattle.x5_dapreply.proofs.AnswerSpelling.{done_read}
use Rattle.x5_dapreply.proofs.direct.done_in.Goals as goal

pub returns : goal.returns
returns c =
    done_read c.in_ok-id.id (told_answer c.in_ok-answer.answer) c.args.octets.now c.in_ok-content.content.now
    c.in_ok-id.left.now c.in_ok-body.body.now c.in_ok-content.ensures c.in_ok-id.ensures c.in_ok-body.ensures
    c.in_ok-answer.ensures
