-- Attribute by attribute.
use Rattle.x5_model_shadowed.proofs.Sending.{entry_is_within, step_is_within}
use Rattle.x5_model_shadowed.proofs.refreshes_can_be_sent.Goals as goal

pub returns-clause-entries : goal.returns-clause-entries
returns-clause-entries c = entry_is_within

pub returns-clause-steps : goal.returns-clause-steps
returns-clause-steps c = step_is_within
