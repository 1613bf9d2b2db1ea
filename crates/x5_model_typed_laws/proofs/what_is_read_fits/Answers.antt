-- The answers are the lemmas.
use Rattle.x5_model_typed_laws.proofs.Spelled.{spelled_fits}
use Rattle.x5_model_typed_laws.proofs.Closed.{messages_are_closed, messages_spelled_fit}
use Rattle.x5_model_typed_laws.proofs.what_is_read_fits.Goals as goal

pub returns-clause-every : goal.returns-clause-every
returns-clause-every c = spelled_fits

pub returns-clause-closed : goal.returns-clause-closed
returns-clause-closed c = messages_are_closed

pub returns-clause-messages : goal.returns-clause-messages
returns-clause-messages c = messages_spelled_fit
