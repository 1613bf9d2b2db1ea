-- Names pair by pair.
use Rattle.x5_model_messages.proofs.Back.{names_back}
use Rattle.x5_model_messages.proofs.names_read_back.Goals as goal

pub returns-clause-names : goal.returns-clause-names
returns-clause-names c = names_back
