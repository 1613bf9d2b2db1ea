-- The answer to the goal that the tactics leave.
use Rattle.x5_model_parts.proofs.Onward.{same_is_passed_on}
use Rattle.x5_model_parts.proofs.passing.Goals as goal

pub returns : goal.returns
returns c = same_is_passed_on
