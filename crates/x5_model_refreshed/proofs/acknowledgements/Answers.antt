-- Each clause is its theorem.
use Rattle.x5_model_refreshed.proofs.Acked.{stamp_is_acked, acked_at_place}
use Rattle.x5_model_refreshed.proofs.acknowledgements.Goals as goal

pub returns-clause-acked : goal.returns-clause-acked
returns-clause-acked c = stamp_is_acked

pub returns-clause-place : goal.returns-clause-place
returns-clause-place c = acked_at_place
