-- Octets that spell a reply within the limits are read as it.
use Rattle.std.proofs.Common.{ℕ, ap}
use Rattle.x5_model_messages.specs.Replies.{Reply}
use Rattle.x5_wire.proofs.Told.{told_within}
use Rattle.x5_dapreply.specs.ReplyViews.{heard, unnumbered}
use Rattle.x5_ops.specs.declared.answers.Reply as code
use Rattle.x5_wire.proofs.Written.{only_want}
use Rattle.x5_wire.proofs.answers.read.Goals as goal

pub returns-in-Ok : goal.returns-in-Ok
returns-in-Ok c = record {
  read = λ id r h s. ap (λ (p : ℕ × Reply). p.1) (c.in-Ok.ensures.back id r (told_within r h) s);
}

pub want-requires : goal.want-requires
want-requires c =
    let w = c.requires.spelled in
    only_want {Y = ℕ × Reply} (λ (p : ℕ × code.Reply). (p.0, heard p.1)) (w.0, unnumbered w.1) c.in-Err.fault
    (c.in-Err.ensures.back w.0 w.1 (told_within w.1 w.2) w.3)
