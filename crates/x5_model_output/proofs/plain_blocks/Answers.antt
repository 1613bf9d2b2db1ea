-- The clause is its theorem.
use Rattle.x5_model_output.proofs.Telling.{plain_is_told}
use Rattle.x5_model_output.proofs.plain_blocks.Goals as goal

pub returns : goal.returns
returns c = plain_is_told
