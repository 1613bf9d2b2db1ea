-- The network as it is when the message is sent is what its call is judged by.
use Rattle.x5_world.proofs.world.World.send.Given as goal

abbrev pub ghosts-asked : goal.ghosts-asked
ghosts-asked a = record { net = a.world }
