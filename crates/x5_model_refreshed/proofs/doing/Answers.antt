-- Each clause is its theorem.
use Rattle.x5_model_refreshed.proofs.Stepping.{step_can_be_done}
use Rattle.x5_model_refreshed.proofs.Wholes.{parts_are_whole}
use Rattle.x5_model_refreshed.proofs.Redoing.{master_can_replay}
use Rattle.x5_model_refreshed.proofs.Resuming.{consumer_can_replay, refresh_can_replay}
use Rattle.x5_model_refreshed.proofs.Copied.{copies_are_whole}
use Rattle.x5_model_refreshed.proofs.doing.Goals as goal

pub returns-clause-step : goal.returns-clause-step
returns-clause-step c = step_can_be_done

pub returns-clause-whole : goal.returns-clause-whole
returns-clause-whole c = parts_are_whole

pub returns-clause-master : goal.returns-clause-master
returns-clause-master c = master_can_replay

pub returns-clause-consumer : goal.returns-clause-consumer
returns-clause-consumer c = consumer_can_replay

pub returns-clause-refresh : goal.returns-clause-refresh
returns-clause-refresh c = refresh_can_replay

pub returns-clause-copies : goal.returns-clause-copies
returns-clause-copies c = copies_are_whole
