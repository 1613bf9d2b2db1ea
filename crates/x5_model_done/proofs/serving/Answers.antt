-- Each message is served with a reply, and each request is carried through whatever is lost: by the lemmas that
-- everything that is to be done can be done.
use Rattle.x5_model_done.proofs.Done.{messages_are_served, requests_are_done}
use Rattle.x5_model_done.proofs.serving.Goals as goal

pub returns-clause-messages : goal.returns-clause-messages
returns-clause-messages c = messages_are_served

pub returns-clause-requests : goal.returns-clause-requests
returns-clause-requests c = requests_are_done
