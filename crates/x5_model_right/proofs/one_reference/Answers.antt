-- The agents of one reference, asked in turn, by a lemma for each case: none was asked yet, one more in vain, the next
-- is heard, or none is, which makes the reference lost.
use Rattle.x5_model_right.proofs.Agents.{needed_agents}
use Rattle.x5_model_right.proofs.Taking.{none_yet_right, in_vain_too_right, next_is_heard_right, none_is_heard_right}
use Rattle.x5_model_right.proofs.one_reference.Goals as goal

pub returns-clause-none : goal.returns-clause-none
returns-clause-none c = none_yet_right

pub returns-clause-vain : goal.returns-clause-vain
returns-clause-vain c = in_vain_too_right

pub returns-clause-heard : goal.returns-clause-heard
returns-clause-heard c = next_is_heard_right

pub returns-clause-unheard : goal.returns-clause-unheard
returns-clause-unheard c = none_is_heard_right needed_agents
