-- What is kept composes: nothing done keeps all, and so do two things in turn, a lost message, a served one and an
-- accepted update, each by its lemma.
use Rattle.x5_model_lasting.proofs.Composes.{keeps_itself, keeps_both, keeps_lost, keeps_sent, keeps_accepting}
use Rattle.x5_model_lasting.proofs.composing.Goals as goal

pub returns-clause-itself : goal.returns-clause-itself
returns-clause-itself c = keeps_itself

pub returns-clause-both : goal.returns-clause-both
returns-clause-both c = keeps_both

pub returns-clause-lost : goal.returns-clause-lost
returns-clause-lost c = keeps_lost

pub returns-clause-sent : goal.returns-clause-sent
returns-clause-sent c = keeps_sent

pub returns-clause-accepting : goal.returns-clause-accepting
returns-clause-accepting c = keeps_accepting
