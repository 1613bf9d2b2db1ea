-- What reading a text gives as a value of a type is one that a text can give for the type's kind: by the lemma of
-- Values, which goes through the kinds.
use Rattle.x5_model_text_laws.proofs.Values.{value_given}
use Rattle.x5_model_text_laws.proofs.read_values_are_given.Goals as goal

pub returns : goal.returns
returns c = value_given
