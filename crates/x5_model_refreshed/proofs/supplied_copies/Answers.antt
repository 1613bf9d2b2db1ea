-- Each clause is its theorem.
use Rattle.x5_model_refreshed.proofs.Sources.{supplied_is_held, master_supplies, consumer_supplies}
use Rattle.x5_model_refreshed.proofs.Lying.{references_stay, copy_advances}
use Rattle.x5_model_refreshed.proofs.supplied_copies.Goals as goal

pub returns-clause-supplied : goal.returns-clause-supplied
returns-clause-supplied c = supplied_is_held

pub returns-clause-master : goal.returns-clause-master
returns-clause-master c = master_supplies

pub returns-clause-consumer : goal.returns-clause-consumer
returns-clause-consumer c = consumer_supplies

pub returns-clause-references : goal.returns-clause-references
returns-clause-references c = references_stay

pub returns-clause-advances : goal.returns-clause-advances
returns-clause-advances c = copy_advances
