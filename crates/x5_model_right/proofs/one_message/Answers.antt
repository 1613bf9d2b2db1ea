-- One message does what is claimed of it in each of its four fates: none is left to be sent, it is lost, its reply is
-- lost, or the reply is heard and followed.
use Rattle.x5_model_right.proofs.Agents.{needed_agents}
use Rattle.x5_model_right.proofs.Held.{holds_back_right}
use Rattle.x5_model_right.proofs.Messages.{spent_right, lost_right, dropped_right, heard_right}
use Rattle.x5_model_right.proofs.one_message.Goals as goal

pub returns-clause-held : goal.returns-clause-held
returns-clause-held c = holds_back_right needed_agents

pub returns-clause-spent : goal.returns-clause-spent
returns-clause-spent c = spent_right

pub returns-clause-lost : goal.returns-clause-lost
returns-clause-lost c = lost_right needed_agents

pub returns-clause-dropped : goal.returns-clause-dropped
returns-clause-dropped c = dropped_right needed_agents

pub returns-clause-heard : goal.returns-clause-heard
returns-clause-heard c = heard_right needed_agents
