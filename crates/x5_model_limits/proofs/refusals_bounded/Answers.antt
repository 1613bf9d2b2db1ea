-- The answers are the lemmas of this crate.
use Rattle.x5_model_limits.proofs.Refusing.{refusals_are_bounded, judged_is_bounded, ground_is_bounded}
use Rattle.x5_model_limits.proofs.refusals_bounded.Goals as goal

pub returns-clause-refused : goal.returns-clause-refused
returns-clause-refused c = refusals_are_bounded

pub returns-clause-judged : goal.returns-clause-judged
returns-clause-judged c = judged_is_bounded

pub returns-clause-ground : goal.returns-clause-ground
returns-clause-ground c = ground_is_bounded
