-- The answer is the lemma.
use Rattle.x5_model_limits.proofs.AtLines.{lines_bounded}
use Rattle.x5_model_limits.proofs.lines_bounded.Goals as goal

pub returns : goal.returns
returns c = lines_bounded
