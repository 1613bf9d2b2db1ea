-- Where each message and each reply arrived it's whole.
use Rattle.x5_model_settled.specs.Held.{Performed}
use Rattle.x5_model_pursued.specs.Lines.{FollowsWhole, ResolvesWhole, FollowsHeard}
use Rattle.x5_model_pursued.proofs.Lines.{at_runs, lines_follow_whole, lines_resolve_whole, lines_follow_heard}
use Rattle.x5_model_pursued.proofs.hearing.Goals as goal

pub returns-clause-lines : goal.returns-clause-lines
returns-clause-lines c = lines_follow_whole

pub returns-clause-runs : goal.returns-clause-runs
returns-clause-runs c = at_runs Performed FollowsWhole lines_follow_whole

pub returns-clause-aliases : goal.returns-clause-aliases
returns-clause-aliases c = lines_resolve_whole

pub returns-clause-resolved : goal.returns-clause-resolved
returns-clause-resolved c = at_runs Performed ResolvesWhole lines_resolve_whole

pub returns-clause-network : goal.returns-clause-network
returns-clause-network c = lines_follow_heard

pub returns-clause-clear : goal.returns-clause-clear
returns-clause-clear c = at_runs Performed FollowsHeard lines_follow_heard
