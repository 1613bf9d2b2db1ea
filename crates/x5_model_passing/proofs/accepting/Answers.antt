-- The answers are the lemmas of this crate.
use Rattle.x5_model_passing.proofs.Queries.{queries_accept_none}
use Rattle.x5_model_passing.proofs.Silence.{off_is_silent}
use Rattle.x5_model_passing.proofs.accepting.Goals as goal

pub returns-clause-queries : goal.returns-clause-queries
returns-clause-queries c = queries_accept_none

pub returns-clause-off : goal.returns-clause-off
returns-clause-off c = off_is_silent
