-- The answer to the goal that the tactics leave.
use Rattle.x5_model_typed_laws.proofs.Deciding.{judged_decides}
use Rattle.x5_model_typed_laws.proofs.reading_decides.Goals as goal

pub returns-clause-decides : goal.returns-clause-decides
returns-clause-decides c = judged_decides
