-- What holds of the message at hand still holds once something was done for it: that it is at hand, who may send for
-- it, whom its references asked and which reply is right.
use Rattle.x5_model_lasting.proofs.Holds.{keeps_lasts, spent_stays, at_hand_stays, at_master_stays, may_take_stays}
use Rattle.x5_model_lasting.proofs.Holds.{asked_stays, asked_apart, noted_stays, reply_stays, calm_stays}
use Rattle.x5_model_lasting.proofs.holding.Goals as goal

pub returns-clause-lasts : goal.returns-clause-lasts
returns-clause-lasts c = keeps_lasts

pub returns-clause-spent : goal.returns-clause-spent
returns-clause-spent c = spent_stays

pub returns-clause-at_hand : goal.returns-clause-at_hand
returns-clause-at_hand c = at_hand_stays

pub returns-clause-at_master : goal.returns-clause-at_master
returns-clause-at_master c = at_master_stays

pub returns-clause-may_take : goal.returns-clause-may_take
returns-clause-may_take c = may_take_stays

pub returns-clause-asked : goal.returns-clause-asked
returns-clause-asked c = asked_stays

pub returns-clause-apart : goal.returns-clause-apart
returns-clause-apart c = asked_apart

pub returns-clause-noted : goal.returns-clause-noted
returns-clause-noted c = noted_stays

pub returns-clause-reply : goal.returns-clause-reply
returns-clause-reply c = reply_stays

pub returns-clause-calm : goal.returns-clause-calm
returns-clause-calm c = calm_stays
