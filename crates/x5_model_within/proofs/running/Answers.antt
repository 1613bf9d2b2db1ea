-- The answers are the lemmas, for blocks that are what agents do.
use Rattle.x5_model_run.specs.Right.{SendsRight}
use Rattle.x5_model_settled.specs.Held.{BySteps, Performed}
use Rattle.x5_model_within.proofs.Runs.{accepted_bounded, runs_bounded}
use Rattle.x5_model_within.proofs.running.Goals as goal

pub returns-clause-accepted : goal.returns-clause-accepted
returns-clause-accepted c = accepted_bounded SendsRight

pub returns-clause-steps : goal.returns-clause-steps
returns-clause-steps c = runs_bounded BySteps (λ p first m j reply d. d)

pub returns-clause-performed : goal.returns-clause-performed
returns-clause-performed c = runs_bounded Performed (λ p first m j reply d. d.0)
