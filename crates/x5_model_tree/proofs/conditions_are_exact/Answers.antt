-- The answer to the goal that the tactics leave.
use Rattle.x5_model_tree.proofs.Exact.{conditions_hold}
use Rattle.x5_model_tree.proofs.conditions_are_exact.Goals as goal

pub returns-clause-hold : goal.returns-clause-hold
returns-clause-hold c = conditions_hold
