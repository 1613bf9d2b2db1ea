-- The request that is read is the one that was asked.
use Rattle.std.proofs.Common.{ap, ◌∙◌}
use Rattle.std.proofs.lemmas.Result.{IfOk-weaker}
use Rattle.x5_model_run.specs.Chain.{opening}
use Rattle.x5_world.proofs.asking.heard.Goals as goal

pub returns : goal.returns
returns c =
    IfOk-weaker c.opening-message.result _ _ (λ m h names. h names ∙ ap opening c.in_ok-request.ensures) c.opening-message.ensures
