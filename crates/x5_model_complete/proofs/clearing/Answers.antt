-- So it is with nothing in the way of so many messages as the request takes, for both judges of messages, SendsRight and
-- RightAndWhole.
use Rattle.x5_model_run.specs.Right.{SendsRight}
use Rattle.x5_model_settled.specs.Judges.{RightAndWhole}
use Rattle.x5_model_complete.proofs.Complete.{clear_lines_are_complete, clear_runs_are_complete}
use Rattle.x5_model_complete.proofs.clearing.Goals as goal

pub returns-clause-lines : goal.returns-clause-lines
returns-clause-lines c = clear_lines_are_complete

pub returns-clause-runs : goal.returns-clause-runs
returns-clause-runs c = clear_runs_are_complete SendsRight

pub returns-clause-whole : goal.returns-clause-whole
returns-clause-whole c = clear_runs_are_complete RightAndWhole
