-- A value that a text can give for a type, printed and read for that type, is itself, and so is what was read: by the
-- lemmas of Values, through octets, object identifiers, names and texts.
use Rattle.x5_model_text_laws.proofs.Values.{value_back, value_again}
use Rattle.x5_model_text_laws.proofs.values_read_back.Goals as goal

pub returns-clause-values : goal.returns-clause-values
returns-clause-values c = value_back

pub returns-clause-again : goal.returns-clause-again
returns-clause-again c = value_again
