-- The answers are the lemmas of this crate.
use Rattle.x5_model_limits.proofs.Replying.{replies_to_asked, requests_answered}
use Rattle.x5_model_limits.proofs.what_is_answered.Goals as goal

pub returns-clause-does : goal.returns-clause-does
returns-clause-does c = replies_to_asked

pub returns-clause-requests : goal.returns-clause-requests
returns-clause-requests c = requests_answered
