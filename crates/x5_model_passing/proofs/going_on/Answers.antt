-- The answers are the lemmas of this crate.
use Rattle.x5_model_passing.proofs.Taking.{taking_is_right, casting_is_right}
use Rattle.x5_model_passing.proofs.Nobody.{nobody_is_right}
use Rattle.x5_model_passing.proofs.Unsure.{silence_is_right}
use Rattle.x5_model_passing.proofs.going_on.Goals as goal

pub returns-clause-taking : goal.returns-clause-taking
returns-clause-taking c = taking_is_right

pub returns-clause-casting : goal.returns-clause-casting
returns-clause-casting c = casting_is_right

pub returns-clause-nobody : goal.returns-clause-nobody
returns-clause-nobody c = nobody_is_right

pub returns-clause-silence : goal.returns-clause-silence
returns-clause-silence c = silence_is_right
