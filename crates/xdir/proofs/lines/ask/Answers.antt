-- A request within the limits of messages has short names. The reply and the messages that the network tells of are
-- what comes of it as a command of a run, since they name agents of the world alone.
use Rattle.x5_ops.specs.RequestViews.{request_view}
use Rattle.xdir.proofs.Courses.{course_of}
use Rattle.xdir.proofs.ShortNames.{short_names}
use Rattle.xdir.proofs.lines.ask.Goals as goal

pub ask-requires-clause-short : goal.ask-requires-clause-short
ask-requires-clause-short c = short_names (request_view c.args.request.now).body c.requires.within.body

pub returns-clause-course : goal.returns-clause-course
returns-clause-course c = λ p stands.
    course_of c.args.network.now c.ask.new.self p c.args.to (request_view c.args.request.now) c.in_ok-reply.reply c.in_ok-reply.journal stands
    (c.in_ok-reply.ensures.answered p stands) c.in_ok-reply.ensures.named
