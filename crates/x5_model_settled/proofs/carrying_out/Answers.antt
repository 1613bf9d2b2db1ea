-- A script that agents carry out is a run, and what is printed of it is the output of one: the two theorems are those
-- of `Runs`.
use Rattle.x5_model_settled.proofs.Runs.{agents_run_is_run, agents_print_run}
use Rattle.x5_model_settled.proofs.carrying_out.Goals as goal

pub returns-clause-runs : goal.returns-clause-runs
returns-clause-runs c = agents_run_is_run

pub returns-clause-prints : goal.returns-clause-prints
returns-clause-prints c = agents_print_run
