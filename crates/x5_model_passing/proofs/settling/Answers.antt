-- The answers are the lemmas of this crate.
use Rattle.x5_model_passing.proofs.Due.{due_is_here, others_are_settled, carried_is_same}
use Rattle.x5_model_passing.proofs.settling.Goals as goal

pub returns-clause-here : goal.returns-clause-here
returns-clause-here c = due_is_here

pub returns-clause-settled : goal.returns-clause-settled
returns-clause-settled c = others_are_settled

pub returns-clause-carried : goal.returns-clause-carried
returns-clause-carried c = carried_is_same
