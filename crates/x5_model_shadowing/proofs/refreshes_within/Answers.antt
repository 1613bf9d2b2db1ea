-- The clause is the theorem.
use Rattle.x5_model_shadowing.proofs.Sent.{refreshes_within}
use Rattle.x5_model_shadowing.proofs.refreshes_within.Goals as goal

pub returns : goal.returns
returns c = refreshes_within
