-- At every line what a user who follows is told is right.
use Rattle.x5_model_settled.specs.Held.{Performed}
use Rattle.x5_model_pursued.specs.Lines.{FollowsRight}
use Rattle.x5_model_pursued.proofs.Lines.{at_runs, lines_follow_right}
use Rattle.x5_model_pursued.proofs.pursuing.Goals as goal

pub returns-clause-lines : goal.returns-clause-lines
returns-clause-lines c = lines_follow_right

pub returns-clause-runs : goal.returns-clause-runs
returns-clause-runs c = at_runs Performed FollowsRight lines_follow_right
