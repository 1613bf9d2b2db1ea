-- The answer is the lemma.
use Rattle.x5_model_limits.proofs.Described.{described_bounded}
use Rattle.x5_model_limits.proofs.described_bounded.Goals as goal

pub returns : goal.returns
returns c = described_bounded
