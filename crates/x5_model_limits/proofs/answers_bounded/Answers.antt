-- The answer is the lemma of this crate.
use Rattle.x5_model_limits.proofs.Answering.{answers_are_bounded}
use Rattle.x5_model_limits.proofs.answers_bounded.Goals as goal

pub returns : goal.returns
returns c = answers_are_bounded
