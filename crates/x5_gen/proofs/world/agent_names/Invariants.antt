-- The quoted names so far, with those of the agents whose numbers are left, are the names of all the agents.
use Rattle.std.proofs.Common.{◌≡◌, ◌++◌, map, drop, string_bytes}
use Rattle.x5_gen.specs.World.{agent_name}
use Rattle.x5_gen.proofs.world.agent_names.Given as goal

abbrev pub invariant-loop-number : goal.invariant-loop-number
invariant-loop-number l = map string_bytes l.texts.items ++ map agent_name (drop l.number-index l.numbers) ≡ map agent_name l.numbers
