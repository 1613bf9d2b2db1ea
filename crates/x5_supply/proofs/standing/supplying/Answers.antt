-- Each clause is its theorem.
use Rattle.x5_supply.proofs.Copying.{master_sends}
use Rattle.x5_supply.proofs.Counting.{copy_sends, steps_are_changes}
use Rattle.x5_supply.proofs.standing.supplying.Goals as goal

pub returns-clause-master : goal.returns-clause-master
returns-clause-master c = master_sends

pub returns-clause-copy : goal.returns-clause-copy
returns-clause-copy c = copy_sends

pub returns-clause-steps : goal.returns-clause-steps
returns-clause-steps c = steps_are_changes
