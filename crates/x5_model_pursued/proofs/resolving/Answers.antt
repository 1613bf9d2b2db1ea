-- So it is where he follows aliases too.
use Rattle.x5_model_settled.specs.Held.{Performed}
use Rattle.x5_model_pursued.specs.Lines.{ResolvesRight}
use Rattle.x5_model_pursued.proofs.Lines.{at_runs, lines_resolve_right}
use Rattle.x5_model_pursued.proofs.resolving.Goals as goal

pub returns-clause-lines : goal.returns-clause-lines
returns-clause-lines c = lines_resolve_right

pub returns-clause-runs : goal.returns-clause-runs
returns-clause-runs c = at_runs Performed ResolvesRight lines_resolve_right
