-- The code says which result stands behind it.
use Rattle.std.proofs.Common.{[], refl, lit<}
use Rattle.x5_model_typed.specs.Named as named
use Rattle.x5_dapreply.specs.ReplyViews.{told_answer}
use Rattle.x5_dapreply.proofs.AnswerSpelling.{coded}
use Rattle.x5_dapreply.proofs.direct.answer_in.Goals as goal

pub returns-in-Some : goal.returns-in-Some
returns-in-Some c =
    coded 5 named.Search (told_answer c.in_ok-found.found) c.args.body.now c.in-Some.rest.now (lit< tt) refl
    c.in-Some.ensures (c.in_ok-found.ensures c.in-Some.rest.now [] c.in_ok-whole.ensures)

pub returns-in-Some-after : goal.returns-in-Some-after
returns-in-Some-after c =
    coded 1 named.Read (told_answer c.in_ok-read.read) c.args.body.now c.in-Some-after.rest.now (lit< tt) refl
    c.in-Some-after.ensures (c.in_ok-read.ensures c.in-Some-after.rest.now [] c.in_ok-whole-2.ensures)

pub returns-in-Some-after-2 : goal.returns-in-Some-after-2
returns-in-Some-after-2 c =
    coded 4 named.ListBelow (told_answer c.in_ok-listed.listed) c.args.body.now c.in-Some-after-2.rest.now
    (lit< tt) refl
    c.in-Some-after-2.ensures (c.in_ok-listed.ensures c.in-Some-after-2.rest.now [] c.in_ok-whole-3.ensures)
