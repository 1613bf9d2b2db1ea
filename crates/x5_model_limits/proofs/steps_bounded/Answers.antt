-- The answers are the lemmas.
use Rattle.x5_model_limits.proofs.Stepping.{noted_bounded, replay_bounded}
use Rattle.x5_model_limits.proofs.steps_bounded.Goals as goal

pub returns-clause-noted : goal.returns-clause-noted
returns-clause-noted c = noted_bounded

pub returns-clause-replay : goal.returns-clause-replay
returns-clause-replay c = replay_bounded
