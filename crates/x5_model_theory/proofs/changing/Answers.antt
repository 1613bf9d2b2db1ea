-- Adding an entry, removing one, renaming one and reordering entries each keep knowledge coherent: a lemma for each.
use Rattle.x5_model_theory.proofs.Changes.{adding_keeps, removing_keeps, renaming_keeps, reordering_keeps}
use Rattle.x5_model_theory.proofs.changing.Goals as goal

pub returns-clause-adding : goal.returns-clause-adding
returns-clause-adding c = adding_keeps

pub returns-clause-removing : goal.returns-clause-removing
returns-clause-removing c = removing_keeps

pub returns-clause-renaming : goal.returns-clause-renaming
returns-clause-renaming c = renaming_keeps

pub returns-clause-reordering : goal.returns-clause-reordering
returns-clause-reordering c = reordering_keeps
