-- What was read, with the agreement that is found.
use Rattle.std.proofs.Common.{refl}
use Rattle.x5_world.proofs.shadows.agreed_in.Goals as goal

pub returns-in-Ok : goal.returns-in-Ok
returns-in-Ok c = (c.in-Ok.ensures, refl, refl)
