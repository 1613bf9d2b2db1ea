-- What a message is answered is what comes of the octets that spell it.
use Rattle.x5_world.proofs.world.World.take.Goals as goal

pub returns-clause-taken : goal.returns-clause-taken
returns-clause-taken c = λ p via count s. c.in_ok-reply.ensures.answered p s
