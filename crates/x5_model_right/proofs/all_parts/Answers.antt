-- The loop over the references of a list or search, in five cases: no reference, nobody heard by one more, somebody
-- heard who couldn't hear another, an answer merged, or an error that ends the whole.
use Rattle.x5_model_right.proofs.Gathering.{no_part_right, part_unheard_right, part_unavailable_right}
use Rattle.x5_model_right.proofs.Gathering.{part_answered_right, part_breaks_right}
use Rattle.x5_model_right.proofs.all_parts.Goals as goal

pub returns-clause-none : goal.returns-clause-none
returns-clause-none c = no_part_right

pub returns-clause-unheard : goal.returns-clause-unheard
returns-clause-unheard c = part_unheard_right

pub returns-clause-unavailable : goal.returns-clause-unavailable
returns-clause-unavailable c = part_unavailable_right

pub returns-clause-answered : goal.returns-clause-answered
returns-clause-answered c = part_answered_right

pub returns-clause-breaks : goal.returns-clause-breaks
returns-clause-breaks c = part_breaks_right
