-- By the run's steps.
use Rattle.x5_model_settled.proofs.Steps.{steps_are_agents, steps_are_right, steps_print_run, steps_are_performed, steps_print_performed, performed_is_right}
use Rattle.x5_model_settled.proofs.stepping.Goals as goal

pub returns-clause-agents : goal.returns-clause-agents
returns-clause-agents c = steps_are_agents

pub returns-clause-runs : goal.returns-clause-runs
returns-clause-runs c = steps_are_right

pub returns-clause-prints : goal.returns-clause-prints
returns-clause-prints c = steps_print_run

pub returns-clause-performed : goal.returns-clause-performed
returns-clause-performed c = steps_are_performed

pub returns-clause-printed : goal.returns-clause-printed
returns-clause-printed c = steps_print_performed

pub returns-clause-right : goal.returns-clause-right
returns-clause-right c = performed_is_right
