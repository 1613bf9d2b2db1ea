-- What is spelled fits, and what fits says what is within the limits.
use Rattle.x5_model_fitting.proofs.RequestsSaid.{request_spelled}
use Rattle.x5_model_fitting.proofs.ChainedSaid.{chained_spelled}
use Rattle.x5_model_fitting.proofs.RepliesSaid.{reply_spelled, reply_to_agent_spelled}
use Rattle.x5_model_fitting.proofs.what_is_spelled_is_within.Goals as goal

pub returns-clause-requests : goal.returns-clause-requests
returns-clause-requests c = request_spelled

pub returns-clause-messages : goal.returns-clause-messages
returns-clause-messages c = chained_spelled

pub returns-clause-to_user : goal.returns-clause-to_user
returns-clause-to_user c = reply_spelled

pub returns-clause-to_agent : goal.returns-clause-to_agent
returns-clause-to_agent c = reply_to_agent_spelled
