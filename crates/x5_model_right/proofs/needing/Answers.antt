-- Needed references name one agent at least, and only agents of the world: by the lemma on the ways in which they are
-- made.
use Rattle.x5_model_right.proofs.Agents.{needed_agents}
use Rattle.x5_model_right.proofs.needing.Goals as goal

pub returns : goal.returns
returns c = needed_agents
