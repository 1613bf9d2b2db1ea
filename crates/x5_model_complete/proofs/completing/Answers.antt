-- Where each message arrived an answer is complete, at one line and at every line of a run; the lemma on runs is taken for
-- both judges of messages, SendsRight and RightAndWhole.
use Rattle.x5_model_run.specs.Right.{SendsRight}
use Rattle.x5_model_settled.specs.Judges.{RightAndWhole}
use Rattle.x5_model_complete.proofs.Complete.{lines_are_complete, runs_are_complete}
use Rattle.x5_model_complete.proofs.completing.Goals as goal

pub returns-clause-lines : goal.returns-clause-lines
returns-clause-lines c = lines_are_complete

pub returns-clause-runs : goal.returns-clause-runs
returns-clause-runs c = runs_are_complete SendsRight

pub returns-clause-whole : goal.returns-clause-whole
returns-clause-whole c = runs_are_complete RightAndWhole
