-- The subordinate references so far, with those to the agents that are left, are those to all the agents.
use Rattle.std.proofs.Common.{◌≡◌, ◌++◌, map, drop, string_bytes}
use Rattle.x5_gen.specs.World.{reference}
use Rattle.x5_gen.proofs.world.references_to.Given as goal

abbrev pub invariant-loop-agent : goal.invariant-loop-agent
invariant-loop-agent l = map string_bytes l.texts.items ++ map reference (drop l.agent-index l.agents) ≡ map reference l.agents
