-- What is counted is what those so far have.
use Rattle.std.proofs.Common.{◌≡◌, take}
use Rattle.x5_world.specs.Counts.{pairs_of_agents}
use Rattle.x5_world.proofs.counts.pairs.Given as goal

abbrev pub invariant-loop-agent : goal.invariant-loop-agent
invariant-loop-agent l = l.count ≡ pairs_of_agents (take l.agent-index l.agents)
