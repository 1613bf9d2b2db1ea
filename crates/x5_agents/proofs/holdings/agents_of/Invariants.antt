-- So far there is what each of the agents before holds, and none has noted a change.
use Rattle.x5_agents.specs.Unnoted.{AllUnnoted}
use Rattle.x5_agents.proofs.Each.{AreEach}
use Rattle.x5_agents.proofs.holdings.agents_of.Given as goal

abbrev pub invariant-loop-place : goal.invariant-loop-place
invariant-loop-place l = AreEach l.world l.all.items l.place × AllUnnoted l.all.items
