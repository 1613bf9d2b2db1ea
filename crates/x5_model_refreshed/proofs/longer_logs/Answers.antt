-- Each clause is its theorem.
use Rattle.x5_model_refreshed.proofs.Lengths.{total_begins_log, steps_lengthen_log, other_logs_stay, kept_grows_on}
use Rattle.x5_model_refreshed.proofs.longer_logs.Goals as goal

pub returns-clause-total : goal.returns-clause-total
returns-clause-total c = total_begins_log

pub returns-clause-steps : goal.returns-clause-steps
returns-clause-steps c = steps_lengthen_log

pub returns-clause-others : goal.returns-clause-others
returns-clause-others c = other_logs_stay

pub returns-clause-kept : goal.returns-clause-kept
returns-clause-kept c = kept_grows_on
