-- What is counted is what those so far have.
use Rattle.std.proofs.Common.{◌≡◌, take}
use Rattle.x5_world.specs.Counts.{contexts_of}
use Rattle.x5_world.proofs.counts.contexts.Given as goal

abbrev pub invariant-loop-agent : goal.invariant-loop-agent
invariant-loop-agent l = l.count ≡ contexts_of (take l.agent-index l.agents)
