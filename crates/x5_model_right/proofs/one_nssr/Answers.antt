-- The agents of an NSSR, asked in turn, by a lemma for each step and end: one is unable or silent, one answers, all are
-- unable so that there is no such entry, or some were silent.
use Rattle.x5_model_right.proofs.Agents.{needed_agents}
use Rattle.x5_model_right.proofs.Casting.{none_asked_right, unable_too_right, silent_too_right, is_answered_right}
use Rattle.x5_model_right.proofs.Casting.{nobody_has_right, some_silent_right}
use Rattle.x5_model_right.proofs.one_nssr.Goals as goal

pub returns-clause-none : goal.returns-clause-none
returns-clause-none c = none_asked_right

pub returns-clause-unable : goal.returns-clause-unable
returns-clause-unable c = unable_too_right

pub returns-clause-silent : goal.returns-clause-silent
returns-clause-silent c = silent_too_right

pub returns-clause-answered : goal.returns-clause-answered
returns-clause-answered c = is_answered_right needed_agents

pub returns-clause-nobody : goal.returns-clause-nobody
returns-clause-nobody c = nobody_has_right needed_agents

pub returns-clause-some : goal.returns-clause-some
returns-clause-some c = some_silent_right needed_agents
