-- A request, and any message at any line, has exactly one journal and one reply: it is carried through, and what is
-- done is determined.
use Rattle.x5_model_done.proofs.Done.{requests_have_outcomes, lines_have_outcomes}
use Rattle.x5_model_done.proofs.one_of_each.Goals as goal

pub returns-clause-outcomes : goal.returns-clause-outcomes
returns-clause-outcomes c = requests_have_outcomes

pub returns-clause-lines : goal.returns-clause-lines
returns-clause-lines c = lines_have_outcomes
