-- The rows of all members.
use Rattle.x5_model_tree.specs.World.{Agreement}
use Rattle.x5_check.specs.Numbers.{keyed, agreement_key}
use Rattle.x5_check.proofs.Steps.{grown}
use Rattle.x5_check.proofs.Tables.{tabled, contexts_by_consumer}
use Rattle.x5_check.proofs.known.contexts_by_consumer.Goals as goal

pub returns : goal.returns
returns c =
    tabled _ _ _ _ c.sorted.ensures (grown (λ (m : Agreement). keyed (m.consumer) (agreement_key m)) c.args.agreements.now c.loop-agreement.agreement-index c.loop-agreement.rows.items _ c.loop-agreement-test.false c.loop-agreement.invariant) (contexts_by_consumer c.args.agreements.now)
