-- By induction on the names.
use Rattle.x5_model_shadowed.proofs.Agents.{agent_is_itself, agent_is_within}
use Rattle.x5_model_shadowed.proofs.agents_go_by_their_names.Goals as goal

pub returns-clause-within : goal.returns-clause-within
returns-clause-within c = agent_is_within

pub returns-clause-itself : goal.returns-clause-itself
returns-clause-itself c = agent_is_itself
