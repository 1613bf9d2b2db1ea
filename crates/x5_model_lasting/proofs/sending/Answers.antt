-- After a message by a reference one agent more was asked for its opener, and that line is the only one sent for it
-- meanwhile; what two groups of references sent was sent by both together.
use Rattle.x5_model_lasting.proofs.Sent.{asked_sent, only_one_sent, only_by_both}
use Rattle.x5_model_lasting.proofs.sending.Goals as goal

pub returns-clause-asked : goal.returns-clause-asked
returns-clause-asked c = asked_sent

pub returns-clause-one : goal.returns-clause-one
returns-clause-one c = only_one_sent

pub returns-clause-both : goal.returns-clause-both
returns-clause-both c = only_by_both
