-- Each clause is its theorem.
use Rattle.x5_model_shadowing.proofs.Sent.{known_is_within, other_is_within, total_is_within, steps_are_within}
use Rattle.x5_model_shadowing.proofs.what_is_sent.Goals as goal

pub returns-clause-known : goal.returns-clause-known
returns-clause-known c = known_is_within

pub returns-clause-others : goal.returns-clause-others
returns-clause-others c = other_is_within

pub returns-clause-total : goal.returns-clause-total
returns-clause-total c = total_is_within

pub returns-clause-steps : goal.returns-clause-steps
returns-clause-steps c = steps_are_within
