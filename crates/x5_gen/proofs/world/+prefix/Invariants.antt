-- The recursion ends, for it goes on to the superior, whose number is smaller than the agent's.
use Rattle.x5_gen.proofs.world.+prefix.Given as goal

abbrev pub decreases-prefix : goal.decreases-prefix
decreases-prefix l = l.agent
