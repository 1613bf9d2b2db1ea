-- Where a name goes on by a reference, or by an NSSR, its owner's reply is right: by the lemmas on going onward, given
-- that needed references name agents.
use Rattle.x5_model_right.proofs.Agents.{needed_agents}
use Rattle.x5_model_right.proofs.Onward.{goes_right, goes_wide_right}
use Rattle.x5_model_right.proofs.going.Goals as goal

pub returns-clause-goes : goal.returns-clause-goes
returns-clause-goes c = goes_right needed_agents

pub returns-clause-wide : goal.returns-clause-wide
returns-clause-wide c = goes_wide_right needed_agents
