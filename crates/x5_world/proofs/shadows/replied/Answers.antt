-- What is read in the reply is what was replied.
use Rattle.std.proofs.Common.{sym, ap, subst, ◌∙◌}
use Rattle.std.proofs.lemmas.Result.{IfOk-weaker}
use Rattle.x5_ops.specs.declared.journal.Refreshed.{Refreshed}
use Rattle.x5_refresh.specs.declared.course.Start.{Start}
use Rattle.x5_refresh.specs.declared.course.Start.TheVariants.{Ended}
use Rattle.x5_world.proofs.shadows.replied.Goals as goal

pub returns-in-GoesOn : goal.returns-in-GoesOn
returns-in-GoesOn c = IfOk-weaker c.by_reply.result _ _ (λ s e. e ∙ sym c.in-GoesOn.is) c.by_reply.ensures
