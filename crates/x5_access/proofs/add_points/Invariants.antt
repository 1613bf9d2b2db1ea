-- Those added so far, with those that are left, are all.
use Rattle.std.proofs.Common.{drop}
use Rattle.x5_access.proofs.Points.{ArePoints}
use Rattle.x5_access.proofs.add_points.Given as goal

abbrev pub invariant-loop-agent : goal.invariant-loop-agent
invariant-loop-agent l = ArePoints l.names l.agents l.initial.points l.points (drop l.agent-index l.agents)
