-- The agents that a probe goes to, in turn: nobody was asked yet, one more is unable and so cleared, one couldn't hear
-- its own supplier, or one wasn't heard; a lemma for each.
use Rattle.x5_model_right.proofs.Broken.{unsure_right}
use Rattle.x5_model_right.proofs.Probing.{no_probe_right, clear_right, silent_right}
use Rattle.x5_model_right.proofs.all_probes.Goals as goal

pub returns-clause-none : goal.returns-clause-none
returns-clause-none c = no_probe_right

pub returns-clause-clear : goal.returns-clause-clear
returns-clause-clear c = clear_right

pub returns-clause-unsure : goal.returns-clause-unsure
returns-clause-unsure c = unsure_right

pub returns-clause-silent : goal.returns-clause-silent
returns-clause-silent c = silent_right
