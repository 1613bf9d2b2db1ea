-- The answers to the goals that the tactics leave.
use Rattle.x5_model_loaded.proofs.Worlds.{file_described, first_is_quiet}
use Rattle.x5_model_loaded.proofs.files_are_described.Goals as goal

pub returns-clause-described : goal.returns-clause-described
returns-clause-described c = file_described

pub returns-clause-quiet : goal.returns-clause-quiet
returns-clause-quiet c = first_is_quiet
