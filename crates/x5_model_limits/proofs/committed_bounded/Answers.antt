-- The answer is the lemma.
use Rattle.x5_model_limits.proofs.Committing.{committed_bounded}
use Rattle.x5_model_limits.proofs.committed_bounded.Goals as goal

pub returns : goal.returns
returns c = committed_bounded
