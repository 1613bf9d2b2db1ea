-- Each clause is its theorem.
use Rattle.x5_model_settled.specs.Held.{BySteps}
use Rattle.x5_model_shadowing.proofs.Runs.{runs_are_bounded}
use Rattle.x5_model_shadowing.proofs.Trees.{trees_sendable}
use Rattle.x5_model_shadowing.proofs.Held.{held_sendable, copies_sendable}
use Rattle.x5_model_shadowing.proofs.Logs.{logs_sendable}
use Rattle.x5_model_shadowing.proofs.Moments.{line_is_counted}
use Rattle.x5_model_shadowing.proofs.lines_can_be_sent.Goals as goal

pub returns-clause-runs : goal.returns-clause-runs
returns-clause-runs c = runs_are_bounded BySteps

pub returns-clause-trees : goal.returns-clause-trees
returns-clause-trees c = trees_sendable

pub returns-clause-held : goal.returns-clause-held
returns-clause-held c = held_sendable

pub returns-clause-copies : goal.returns-clause-copies
returns-clause-copies c = copies_sendable

pub returns-clause-logs : goal.returns-clause-logs
returns-clause-logs c = logs_sendable

pub returns-clause-counted : goal.returns-clause-counted
returns-clause-counted c = line_is_counted
