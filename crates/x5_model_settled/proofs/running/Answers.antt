-- At lines that moved no context, and so at those of runs, what agents do with requests and with other messages is
-- right: by the theorems of `Settled`, those on runs taken at a judge each.
use Rattle.x5_model_run.specs.Right.{SendsRight}
use Rattle.x5_model_settled.specs.Judges.{RightAndWhole}
use Rattle.x5_model_settled.proofs.Settled.{lines_are_right, runs_are_right, lines_take_right, runs_take_right}
use Rattle.x5_model_settled.proofs.Settled.{lines_handle_right, runs_handle_right}
use Rattle.x5_model_settled.proofs.running.Goals as goal

pub returns-clause-lines : goal.returns-clause-lines
returns-clause-lines c = lines_are_right

pub returns-clause-runs : goal.returns-clause-runs
returns-clause-runs c = runs_are_right SendsRight

pub returns-clause-whole : goal.returns-clause-whole
returns-clause-whole c = runs_are_right RightAndWhole

pub returns-clause-takes : goal.returns-clause-takes
returns-clause-takes c = lines_take_right

pub returns-clause-taken : goal.returns-clause-taken
returns-clause-taken c = runs_take_right RightAndWhole

pub returns-clause-handles : goal.returns-clause-handles
returns-clause-handles c = lines_handle_right

pub returns-clause-handled : goal.returns-clause-handled
returns-clause-handled c = runs_handle_right RightAndWhole
