-- Serving a message where nothing is sent is right, and so is handing an update to the agent that has its target to be
-- carried out: a lemma for each of the nine cases.
use Rattle.x5_model_right.proofs.Agents.{needed_agents}
use Rattle.x5_model_right.proofs.Leaves.{loops_right, long_right, unfit_right, refused_right, nowhere_right}
use Rattle.x5_model_right.proofs.Staying.{done_before_right, stuck_right, refers_right, carries_out_right}
use Rattle.x5_model_right.proofs.arriving.Goals as goal

pub returns-clause-loops : goal.returns-clause-loops
returns-clause-loops c = loops_right

pub returns-clause-long : goal.returns-clause-long
returns-clause-long c = long_right

pub returns-clause-unfit : goal.returns-clause-unfit
returns-clause-unfit c = unfit_right

pub returns-clause-refused : goal.returns-clause-refused
returns-clause-refused c = refused_right

pub returns-clause-nowhere : goal.returns-clause-nowhere
returns-clause-nowhere c = nowhere_right needed_agents

pub returns-clause-done : goal.returns-clause-done
returns-clause-done c = done_before_right

pub returns-clause-stuck : goal.returns-clause-stuck
returns-clause-stuck c = stuck_right

pub returns-clause-refers : goal.returns-clause-refers
returns-clause-refers c = refers_right needed_agents

pub returns-clause-carries : goal.returns-clause-carries
returns-clause-carries c = carries_out_right
