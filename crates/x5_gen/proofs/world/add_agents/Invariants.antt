-- The agents so far are behind the text before, and the sequence has gone on by the draws for the people of each.
use Rattle.std.proofs.Common.{◌≡◌, ◌*◌, ◌++◌, string_bytes}
use Rattle.x5_gen.specs.Draws.{after}
use Rattle.x5_gen.specs.World.{people_count, agents}
use Rattle.x5_gen.proofs.world.add_agents.Given as goal

abbrev pub invariant-loop-agent : goal.invariant-loop-agent
invariant-loop-agent l = record {
  text : string_bytes l.text ≡ string_bytes l.fn.text ++ agents l.fn.draws.x l.agent;
  draws : l.draws.x ≡ after l.fn.draws.x (people_count * l.agent);
}
