-- Octets that spell a message within the limits are read as it.
use Rattle.std.proofs.Common.{ℕ, ap}
use Rattle.x5_model_messages.specs.Chained.{Chained}
use Rattle.x5_model_fitting.proofs.Chained.{chained_is}
use Rattle.x5_dspber.specs.ChainedViews.{told_chained}
use Rattle.x5_ops.specs.declared.references.Chained as code
use Rattle.x5_wire.proofs.Written.{only_want}
use Rattle.x5_wire.proofs.messages.read.Goals as goal

pub returns-in-Ok : goal.returns-in-Ok
returns-in-Ok c = record {
  read = λ id m h s. ap (λ (p : ℕ × Chained). p.1) (c.in-Ok.ensures.back id m (chained_is m h) s);
}

pub want-requires : goal.want-requires
want-requires c =
    let w = c.requires.spelled in
    only_want {Y = ℕ × Chained} (λ (p : ℕ × code.Chained). (p.0, told_chained p.1)) (w.0, w.1) c.in-Err.fault
    (c.in-Err.ensures.back w.0 w.1 (chained_is w.1 w.2) w.3)
