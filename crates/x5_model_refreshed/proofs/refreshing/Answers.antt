-- Each clause is its theorem.
use Rattle.x5_model_refreshed.proofs.Refreshed.{copy_is_stamped, other_stamps_stay, master_is_copied, copy_is_copied, all_else_stays}
use Rattle.x5_model_refreshed.proofs.refreshing.Goals as goal

pub returns-clause-stamped : goal.returns-clause-stamped
returns-clause-stamped c = copy_is_stamped

pub returns-clause-others : goal.returns-clause-others
returns-clause-others c = other_stamps_stay

pub returns-clause-master : goal.returns-clause-master
returns-clause-master c = master_is_copied

pub returns-clause-copy : goal.returns-clause-copy
returns-clause-copy c = copy_is_copied

pub returns-clause-rest : goal.returns-clause-rest
returns-clause-rest c = all_else_stays
