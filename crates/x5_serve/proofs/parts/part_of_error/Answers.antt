-- An error of the service is what its parts say.
use Rattle.std.proofs.Common.{sym, subst}
use Rattle.x5_model_heard.specs.Told.{HasReference}
use Rattle.x5_ops.specs.AnswerViews.{reply_view}
use Rattle.x5_ops.specs.declared.answers.Reply.TheVariants.{Failed}
use Rattle.x5_serve.specs.Steps.{IsPart}
use Rattle.x5_serve.proofs.parts.part_of_error.Goals as goal

pub returns-in-Service : goal.returns-in-Service
returns-in-Service c = λ names h.
    subst (λ e. IsPart names (Failed e) c.part_of_problem.result) (sym c.in-Service.is)
    (c.part_of_problem.ensures names (subst (λ e. HasReference (reply_view names (Failed e))) c.in-Service.is h))
