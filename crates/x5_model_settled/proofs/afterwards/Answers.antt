-- By what is held, stamped and moved at the line after.
use Rattle.x5_model_settled.specs.Held.{BySteps}
use Rattle.x5_model_settled.specs.Judges.{RightAndWhole}
use Rattle.x5_model_settled.proofs.After.{holds_after, holds_on, network_stays, moved_none_after, knows_as_described, stamped_at_first, stamped_on}
use Rattle.x5_model_settled.proofs.Stamped.{stamped_after_refresh, stamped_after}
use Rattle.x5_model_settled.proofs.afterwards.Goals as goal

pub returns-clause-holds : goal.returns-clause-holds
returns-clause-holds c = holds_after

pub returns-clause-still : goal.returns-clause-still
returns-clause-still c = holds_on

pub returns-clause-network : goal.returns-clause-network
returns-clause-network c = network_stays

pub returns-clause-moved : goal.returns-clause-moved
returns-clause-moved c = moved_none_after

pub returns-clause-knows : goal.returns-clause-knows
returns-clause-knows c = knows_as_described

pub returns-clause-first : goal.returns-clause-first
returns-clause-first c = stamped_at_first

pub returns-clause-on : goal.returns-clause-on
returns-clause-on c = stamped_on

pub returns-clause-refreshed : goal.returns-clause-refreshed
returns-clause-refreshed c = stamped_after_refresh

pub returns-clause-stamped : goal.returns-clause-stamped
returns-clause-stamped c = stamped_after BySteps

pub returns-clause-right : goal.returns-clause-right
returns-clause-right c = stamped_after RightAndWhole
