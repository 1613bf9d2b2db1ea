-- Accepting lines stay where no unheard probe is added below them, and with them what was accepted, done, served,
-- settled and finished: a lemma for each.
use Rattle.x5_model_lasting.proofs.Finishing.{accepting_stays, line_leaves_them, accepted_stays, done_stays}
use Rattle.x5_model_lasting.proofs.Finishing.{not_done_stays, served_stays, served_itself_stays, settled_stays}
use Rattle.x5_model_lasting.proofs.Finishing.{finished_stays, thorough_stays, finished_is_thorough}
use Rattle.x5_model_lasting.proofs.completing.Goals as goal

pub returns-clause-accepting : goal.returns-clause-accepting
returns-clause-accepting c = accepting_stays

pub returns-clause-line : goal.returns-clause-line
returns-clause-line c = line_leaves_them

pub returns-clause-accepted : goal.returns-clause-accepted
returns-clause-accepted c = accepted_stays

pub returns-clause-done : goal.returns-clause-done
returns-clause-done c = done_stays

pub returns-clause-served : goal.returns-clause-served
returns-clause-served c = served_stays

pub returns-clause-itself : goal.returns-clause-itself
returns-clause-itself c = served_itself_stays

pub returns-clause-settled : goal.returns-clause-settled
returns-clause-settled c = settled_stays

pub returns-clause-finished : goal.returns-clause-finished
returns-clause-finished c = finished_stays

pub returns-clause-not_done : goal.returns-clause-not_done
returns-clause-not_done c = not_done_stays

pub returns-clause-thorough : goal.returns-clause-thorough
returns-clause-thorough c = thorough_stays

pub returns-clause-all : goal.returns-clause-all
returns-clause-all c = finished_is_thorough
