-- Each clause is its theorem.
use Rattle.x5_model_refreshed.proofs.Growing.{quiet_logs_stay, update_is_noted, no_other_notes, kept_grows}
use Rattle.x5_model_refreshed.proofs.logging.Goals as goal

pub returns-clause-quiet : goal.returns-clause-quiet
returns-clause-quiet c = quiet_logs_stay

pub returns-clause-noted : goal.returns-clause-noted
returns-clause-noted c = update_is_noted

pub returns-clause-others : goal.returns-clause-others
returns-clause-others c = no_other_notes

pub returns-clause-kept : goal.returns-clause-kept
returns-clause-kept c = kept_grows
