-- The answers are the lemmas.
use Rattle.x5_model_within.proofs.Held.{moments_bounded, held_bounded, held_name_agents}
use Rattle.x5_model_within.proofs.holding.Goals as goal

pub returns-clause-moments : goal.returns-clause-moments
returns-clause-moments c = moments_bounded

pub returns-clause-bounded : goal.returns-clause-bounded
returns-clause-bounded c = held_bounded

pub returns-clause-agents : goal.returns-clause-agents
returns-clause-agents c = held_name_agents
