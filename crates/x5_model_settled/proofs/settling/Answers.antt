-- Lines that moved no context are settings of a user's request, and so are those of runs: by the theorems of `Settled`,
-- that on runs taken at the judge of right messages and at that of right and whole ones.
use Rattle.x5_model_run.specs.Right.{SendsRight}
use Rattle.x5_model_settled.specs.Judges.{RightAndWhole}
use Rattle.x5_model_settled.proofs.Settled.{lines_are_settled, runs_are_settled}
use Rattle.x5_model_settled.proofs.settling.Goals as goal

pub returns-clause-lines : goal.returns-clause-lines
returns-clause-lines c = lines_are_settled

pub returns-clause-runs : goal.returns-clause-runs
returns-clause-runs c = runs_are_settled SendsRight

pub returns-clause-whole : goal.returns-clause-whole
returns-clause-whole c = runs_are_settled RightAndWhole
