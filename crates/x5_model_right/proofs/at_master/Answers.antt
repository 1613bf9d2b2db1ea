-- The six outcomes of an update at its master are right: refusal and acceptance by the lemmas of Updates, what a probe
-- ends by the lemmas of Probed.
use Rattle.x5_model_right.proofs.Agents.{needed_agents}
use Rattle.x5_model_right.proofs.Probed.{misses_right, is_taken_right, breaks_right}
use Rattle.x5_model_right.proofs.Updates.{not_done_right, does_alone_right, probes_all_right}
use Rattle.x5_model_right.proofs.at_master.Goals as goal

pub returns-clause-refused : goal.returns-clause-refused
returns-clause-refused c = not_done_right

pub returns-clause-alone : goal.returns-clause-alone
returns-clause-alone c = does_alone_right

pub returns-clause-probed : goal.returns-clause-probed
returns-clause-probed c = probes_all_right

pub returns-clause-missed : goal.returns-clause-missed
returns-clause-missed c = misses_right needed_agents

pub returns-clause-found : goal.returns-clause-found
returns-clause-found c = is_taken_right

pub returns-clause-broken : goal.returns-clause-broken
returns-clause-broken c = breaks_right
