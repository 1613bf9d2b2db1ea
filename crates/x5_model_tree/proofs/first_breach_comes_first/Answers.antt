-- The answer to the goal that the tactics leave.
use Rattle.x5_model_tree.proofs.FirstBreach.{first_is}
use Rattle.x5_model_tree.proofs.first_breach_comes_first.Goals as goal

pub returns : goal.returns
returns c = first_is
