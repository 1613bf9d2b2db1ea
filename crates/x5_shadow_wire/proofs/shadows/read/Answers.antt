-- Octets that spell a message within the limits are read as it.
use Rattle.std.proofs.Common.{ℕ, ap}
use Rattle.x5_model_messages.specs.Shadows.{Shadow}
use Rattle.x5_model_shadowed.proofs.Spelled.{shadow_is}
use Rattle.x5_types.specs.FormView.{world}
use Rattle.x5_shadow_wire.proofs.shadows.read.Goals as goal

pub returns-in-Ok : goal.returns-in-Ok
returns-in-Ok c = record {
  read = λ id m h s. ap (λ (p : ℕ × Shadow). p.1)
      (c.in-Ok.ensures.back id m (shadow_is (world c.args.start.now c.args.names.now) m h) s);
}
