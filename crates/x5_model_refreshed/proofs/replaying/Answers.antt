-- Each clause is its theorem.
use Rattle.x5_model_refreshed.proofs.Noting.{step_is_update}
use Rattle.x5_model_refreshed.proofs.Replayed.{log_counts, master_replays, consumer_replays, last_are_later}
use Rattle.x5_model_refreshed.proofs.Bringing.{refresh_replays}
use Rattle.x5_model_refreshed.proofs.Running.{runs_lead}
use Rattle.x5_model_refreshed.proofs.replaying.Goals as goal

pub returns-clause-step : goal.returns-clause-step
returns-clause-step c = step_is_update

pub returns-clause-master : goal.returns-clause-master
returns-clause-master c = master_replays

pub returns-clause-counts : goal.returns-clause-counts
returns-clause-counts c = log_counts

pub returns-clause-consumer : goal.returns-clause-consumer
returns-clause-consumer c = consumer_replays

pub returns-clause-last : goal.returns-clause-last
returns-clause-last c = last_are_later

pub returns-clause-refresh : goal.returns-clause-refresh
returns-clause-refresh c = refresh_replays

pub returns-clause-runs : goal.returns-clause-runs
returns-clause-runs c = runs_lead
