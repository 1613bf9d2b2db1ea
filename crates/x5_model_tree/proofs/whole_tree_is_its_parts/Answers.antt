-- The answer to the goal that the tactics leave.
use Rattle.x5_model_tree.proofs.WholeTree.{whole_is_tree}
use Rattle.x5_model_tree.proofs.whole_tree_is_its_parts.Goals as goal

pub returns-clause-is_tree : goal.returns-clause-is_tree
returns-clause-is_tree c = whole_is_tree
