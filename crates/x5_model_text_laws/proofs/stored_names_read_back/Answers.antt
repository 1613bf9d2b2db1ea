-- The text of a stored name of UTF-8 texts reads as the name as it is written, whose normal forms make that same stored
-- name: by the lemma of Names.
use Rattle.x5_model_text_laws.proofs.Names.{stored_read_back}
use Rattle.x5_model_text_laws.proofs.stored_names_read_back.Goals as goal

pub returns : goal.returns
returns c = stored_read_back
