-- Chaining arguments and the argument of the operation, and nothing else, are the message.
use Rattle.std.proofs.Common.{[], refl}
use Rattle.x5_ops.specs.RequestViews.{request_view}
use Rattle.x5_types.specs.FormView.{operation_view}
use Rattle.x5_dspber.proofs.DirectWhole.{carried_read}
use Rattle.x5_dspber.proofs.direct.carried_in.Goals as goal

pub returns-in-Ok : goal.returns-in-Ok
returns-in-Ok c =
    carried_read (operation_view c.args.operation) c.args.code _ (request_view c.in-Ok.request)
    c.in_ok-arguments.arguments.now c.in_ok-arguments.behind.now c.in_ok-content.content.now c.args.octets.now []
    c.in_ok-content.ensures c.in_ok-arguments.ensures.opens c.in_ok-chaining.ensures refl c.in-Ok.ensures
