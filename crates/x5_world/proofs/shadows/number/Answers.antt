-- The number is the agreement's.
use Rattle.std.proofs.Common.{ap}
use Rattle.x5_model_tree.specs.World.{Agreement}
use Rattle.x5_world.proofs.shadows.number.Goals as goal

pub returns : goal.returns
returns c = ap (λ (g : Agreement). g.number) c.agreement.view_is
