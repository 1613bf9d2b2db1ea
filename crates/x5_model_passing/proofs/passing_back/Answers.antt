-- The answers are the lemmas of this crate.
use Rattle.x5_model_passing.proofs.Same.{same_is_asked}
use Rattle.x5_model_passing.proofs.Results.{result_passes_back, loss_passes_back}
use Rattle.x5_model_passing.proofs.Errors.{error_passes_back}
use Rattle.x5_model_passing.proofs.Back.{within_passes_back, passes_back}
use Rattle.x5_model_passing.proofs.passing_back.Goals as goal

pub returns-clause-same : goal.returns-clause-same
returns-clause-same c = same_is_asked

pub returns-clause-results : goal.returns-clause-results
returns-clause-results c = result_passes_back

pub returns-clause-errors : goal.returns-clause-errors
returns-clause-errors c = error_passes_back

pub returns-clause-losses : goal.returns-clause-losses
returns-clause-losses c = loss_passes_back

pub returns-clause-within : goal.returns-clause-within
returns-clause-within c = within_passes_back

pub returns-clause-back : goal.returns-clause-back
returns-clause-back c = passes_back
