-- The answer to the goal that the tactics leave.
use Rattle.x5_model_parts.proofs.First.{stands_at_first}
use Rattle.x5_model_parts.proofs.standing.Goals as goal

pub returns : goal.returns
returns c = stands_at_first
