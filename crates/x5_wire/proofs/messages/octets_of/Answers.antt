-- A message within the limits is a value of its type, so it has octets.
use Rattle.std.proofs.Common.{◌<◌, ◌^◌, arith}
use Rattle.x5_dspber.specs.ChainedViews.{told_chained}
use Rattle.x5_wire.proofs.Written.{message_fits, message_written}
use Rattle.x5_wire.proofs.messages.octets_of.Goals as goal

pub returns-in-Ok : goal.returns-in-Ok
returns-in-Ok c =
    let small : c.args.id < 2 ^ 32 = omega (arith, c.ranges.id.fits) in
    c.in-Ok.ensures.spelled (message_fits c.args.id (told_chained c.args.message.now) small c.requires)

pub unreachable-requires : goal.unreachable-requires
unreachable-requires c =
    let small : c.args.id < 2 ^ 32 = omega (arith, c.ranges.id.fits) in
    message_written c.args.id (told_chained c.args.message.now) small c.requires
    (rw c.in-Err-Misfit.field-0-is at c.in-Err-Misfit.ensures.written)
