-- A request within the limits is a value of its type, so it has octets.
use Rattle.std.proofs.Common.{◌<◌, ◌^◌, arith}
use Rattle.x5_ops.specs.RequestViews.{request_view}
use Rattle.x5_wire.proofs.Written.{request_fits, request_written}
use Rattle.x5_wire.proofs.requests.octets_of.Goals as goal

pub returns-in-Ok : goal.returns-in-Ok
returns-in-Ok c =
    let small : c.args.id < 2 ^ 32 = omega (arith, c.ranges.id.fits) in
    c.in-Ok.ensures.spelled (request_fits c.args.id (request_view c.args.request.now) small c.requires)

pub unreachable-requires : goal.unreachable-requires
unreachable-requires c =
    let small : c.args.id < 2 ^ 32 = omega (arith, c.ranges.id.fits) in
    request_written c.args.id (request_view c.args.request.now) small c.requires
    (rw c.in-Err-Misfit.field-0-is at c.in-Err-Misfit.ensures.written)
