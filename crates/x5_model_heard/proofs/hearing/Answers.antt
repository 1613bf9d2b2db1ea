-- The answer is the lemma of this crate.
use Rattle.x5_model_heard.proofs.Told.{replies_are_told}
use Rattle.x5_model_heard.proofs.hearing.Goals as goal

pub returns : goal.returns
returns c = replies_are_told
