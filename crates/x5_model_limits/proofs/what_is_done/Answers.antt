-- The answers are the lemmas of this crate.
use Rattle.x5_model_limits.proofs.Doing.{does_bounded, requests_bounded}
use Rattle.x5_model_limits.proofs.what_is_done.Goals as goal

pub returns-clause-does : goal.returns-clause-does
returns-clause-does c = does_bounded

pub returns-clause-requests : goal.returns-clause-requests
returns-clause-requests c = requests_bounded
