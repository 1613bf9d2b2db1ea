-- The answers are the lemmas of this crate.
use Rattle.x5_model_limits.proofs.Carrying.{carried_bounded, opening_bounded}
use Rattle.x5_model_limits.proofs.what_is_carried.Goals as goal

pub returns-clause-carried : goal.returns-clause-carried
returns-clause-carried c = carried_bounded

pub returns-clause-opening : goal.returns-clause-opening
returns-clause-opening c = opening_bounded
