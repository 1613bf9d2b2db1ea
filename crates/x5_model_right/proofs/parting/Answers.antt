-- A list or search at its base is right whether its agent gives its own part with the references for the rest or asks
-- for the rest itself: by the two lemmas on parts.
use Rattle.x5_model_right.proofs.Agents.{needed_agents}
use Rattle.x5_model_right.proofs.Parts.{gives_parts_right, asks_parts_right}
use Rattle.x5_model_right.proofs.parting.Goals as goal

pub returns-clause-gives : goal.returns-clause-gives
returns-clause-gives c = gives_parts_right needed_agents

pub returns-clause-asks : goal.returns-clause-asks
returns-clause-asks c = asks_parts_right needed_agents
