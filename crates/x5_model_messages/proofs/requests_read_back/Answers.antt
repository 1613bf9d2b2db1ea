-- Requests component by component.
use Rattle.x5_model_messages.proofs.Requests.{requests_back}
use Rattle.x5_model_messages.proofs.requests_read_back.Goals as goal

pub returns : goal.returns
returns c = requests_back
