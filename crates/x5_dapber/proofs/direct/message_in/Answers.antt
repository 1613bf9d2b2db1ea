-- An id, a code and the argument of its operation are the message.
use Rattle.std.proofs.Common.{arith, ap, refl}
use Rattle.x5_model.specs.Requests as model
use Rattle.x5_model_typed.specs.Named as named
use Rattle.x5_types.specs.FormView.{operation_view}
use Rattle.x5_dapber.proofs.Coming.{whole_spelled}
use Rattle.x5_dapber.proofs.Invoking.{invoke_spelled}
use Rattle.x5_dapber.proofs.direct.message_in.Goals as goal

pub returns : goal.returns
returns c =
    let octets = c.args.octets.now in
    let id = c.in_ok-id.id in
    let r = c.in_ok-argument_of.ensures in
    let s = invoke_spelled 50 named.DapRequest named.Argument (operation_view c.in_ok-id.operation) id c.in_ok-id.code r.0
    octets c.in_ok-id.argument.now (λ w. refl) c.in_ok-id.ensures.invokes r.1 in
    (_, whole_spelled 51 named.DapRequest _ octets (omega arith) s, ap (λ (q : model.Request). (id, q)) r.2)
