-- What is gathered of a list or search tells the whole as far as it goes: by the lemmas on how it begins, how a part or
-- its loss takes the place of a reference, and how a reply is followed.
use Rattle.x5_model_joins.proofs.Following.{follow_tells}
use Rattle.x5_model_joins.proofs.Idle.{idle_tells}
use Rattle.x5_model_joins.proofs.LeftOut.{loss_replaces}
use Rattle.x5_model_joins.proofs.Local.{local_tells}
use Rattle.x5_model_joins.proofs.Replacing.{part_replaces}
use Rattle.x5_model_joins.proofs.Steps.{so_far_stays, part_is_gathered, loss_is_gathered, unavailable_is_gathered}
use Rattle.x5_model_joins.proofs.gathering.Goals as goal

pub returns-clause-begins : goal.returns-clause-begins
returns-clause-begins c = local_tells

pub returns-clause-follows : goal.returns-clause-follows
returns-clause-follows c = follow_tells

pub returns-clause-replaced : goal.returns-clause-replaced
returns-clause-replaced c = part_replaces

pub returns-clause-stays : goal.returns-clause-stays
returns-clause-stays c = so_far_stays

pub returns-clause-part : goal.returns-clause-part
returns-clause-part c = part_is_gathered

pub returns-clause-lost : goal.returns-clause-lost
returns-clause-lost c = loss_is_gathered

pub returns-clause-unavailable : goal.returns-clause-unavailable
returns-clause-unavailable c = unavailable_is_gathered

pub returns-clause-idle : goal.returns-clause-idle
returns-clause-idle c = idle_tells

pub returns-clause-left_out : goal.returns-clause-left_out
returns-clause-left_out c = loss_replaces
