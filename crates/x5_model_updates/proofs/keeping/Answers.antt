-- Accepted updates keep knowledge consistent, so at each line of a run the world with the entries of the moment meets
-- the ten conditions and the one tree is the union of its masters' parts.
use Rattle.x5_model_run.specs.Right.{SendsRight}
use Rattle.x5_model_updates.proofs.Keeps.{updates_keep, order_stays}
use Rattle.x5_model_updates.proofs.Stood.{lines_stand, runs_stand}
use Rattle.x5_model_updates.proofs.Goods.{tree_is_union, stands_as_tree, stands_good}
use Rattle.x5_model_updates.proofs.Consists.{stands_consistent}
use Rattle.x5_model_updates.proofs.keeping.Goals as goal

pub returns-clause-updates : goal.returns-clause-updates
returns-clause-updates c = updates_keep

pub returns-clause-lines : goal.returns-clause-lines
returns-clause-lines c = lines_stand

pub returns-clause-runs : goal.returns-clause-runs
returns-clause-runs c = runs_stand SendsRight

pub returns-clause-order : goal.returns-clause-order
returns-clause-order c = order_stays

pub returns-clause-union : goal.returns-clause-union
returns-clause-union c = tree_is_union

pub returns-clause-tree : goal.returns-clause-tree
returns-clause-tree c = stands_as_tree

pub returns-clause-conditions : goal.returns-clause-conditions
returns-clause-conditions c = stands_consistent

pub returns-clause-good : goal.returns-clause-good
returns-clause-good c = stands_good
