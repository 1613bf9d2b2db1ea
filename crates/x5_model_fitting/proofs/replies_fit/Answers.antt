-- Result by result and error by error.
use Rattle.x5_model_fitting.proofs.Replies.{reply_fits, reply_to_agent_fits}
use Rattle.x5_model_fitting.proofs.replies_fit.Goals as goal

pub returns-clause-to_user : goal.returns-clause-to_user
returns-clause-to_user c = reply_fits

pub returns-clause-to_agent : goal.returns-clause-to_agent
returns-clause-to_agent c = reply_to_agent_fits
