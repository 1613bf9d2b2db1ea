-- What is heard is a reply, that of the code.
use Rattle.std.proofs.Common.{ap}
use Rattle.x5_ops.specs.AnswerViews.{reply_view}
use Rattle.x5_serve.specs.Steps.{heard_view}
use Rattle.x5_serve.proofs.replies.is_heard.Goals as goal

pub returns-in-Hears : goal.returns-in-Hears
returns-in-Hears c = λ names. (reply_view names c.in-Hears.field-0, ap (heard_view names) c.in-Hears.is)
