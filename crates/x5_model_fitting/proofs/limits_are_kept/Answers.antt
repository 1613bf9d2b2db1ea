-- The answers are the lemmas.
use Rattle.x5_model_fitting.proofs.Kept.{stored_name_within, beginning_within, longer_name_within, longer_trace_within}
use Rattle.x5_model_fitting.proofs.Kept.{normal_within}
use Rattle.x5_model_fitting.proofs.limits_are_kept.Goals as goal

pub returns-clause-described : goal.returns-clause-described
returns-clause-described c = stored_name_within

pub returns-clause-beginning : goal.returns-clause-beginning
returns-clause-beginning c = beginning_within

pub returns-clause-longer : goal.returns-clause-longer
returns-clause-longer c = longer_name_within

pub returns-clause-trace : goal.returns-clause-trace
returns-clause-trace c = longer_trace_within

pub returns-clause-values : goal.returns-clause-values
returns-clause-values c = normal_within
