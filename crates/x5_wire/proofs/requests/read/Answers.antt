-- Octets that spell a request within the limits are read as it.
use Rattle.std.proofs.Common.{ℕ, ap}
use Rattle.x5_model.specs.Requests.{Request}
use Rattle.x5_model_fitting.proofs.Requests.{request_is}
use Rattle.x5_ops.specs.RequestViews.{request_view}
use Rattle.x5_ops.specs.declared.requests.Request as code
use Rattle.x5_wire.proofs.Written.{only_want}
use Rattle.x5_wire.proofs.requests.read.Goals as goal

pub returns-in-Ok : goal.returns-in-Ok
returns-in-Ok c = record {
  read = λ id r h s. ap (λ (p : ℕ × Request). p.1) (c.in-Ok.ensures.back id r (request_is r h) s);
}

pub want-requires : goal.want-requires
want-requires c =
    let w = c.requires.spelled in
    only_want {Y = ℕ × Request} (λ (p : ℕ × code.Request). (p.0, request_view p.1)) (w.0, w.1) c.in-Err.fault
    (c.in-Err.ensures.back w.0 w.1 (request_is w.1 w.2) w.3)
