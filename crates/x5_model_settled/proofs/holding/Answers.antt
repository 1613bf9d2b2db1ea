-- By the two cases of what is held.
use Rattle.x5_model_settled.proofs.Held.{held_is_holdings, held_is_by_step, held_at_first, held_on, held_after_line}
use Rattle.x5_model_settled.proofs.holding.Goals as goal

pub returns-clause-consistent : goal.returns-clause-consistent
returns-clause-consistent c = held_is_holdings

pub returns-clause-other : goal.returns-clause-other
returns-clause-other c = held_is_by_step

pub returns-clause-first : goal.returns-clause-first
returns-clause-first c = held_at_first

pub returns-clause-on : goal.returns-clause-on
returns-clause-on c = held_on

pub returns-clause-after : goal.returns-clause-after
returns-clause-after c = held_after_line
