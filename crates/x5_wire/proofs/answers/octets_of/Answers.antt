-- A reply within the limits is a value of its type, so it has octets.
use Rattle.std.proofs.Common.{◌<◌, ◌^◌, arith}
use Rattle.x5_dapreply.specs.ReplyViews.{told_reply}
use Rattle.x5_ops.specs.JournalViews.{code_view}
use Rattle.x5_wire.proofs.Written.{answer_fits, answer_written}
use Rattle.x5_wire.proofs.answers.octets_of.Goals as goal

pub returns-in-Ok : goal.returns-in-Ok
returns-in-Ok c =
    let small : c.args.id < 2 ^ 32 = omega (arith, c.ranges.id.fits) in
    c.in-Ok.ensures.spelled (answer_fits c.args.id (told_reply (code_view c.args.operation) c.args.reply.now) small
    c.requires)

pub unreachable-requires : goal.unreachable-requires
unreachable-requires c =
    let small : c.args.id < 2 ^ 32 = omega (arith, c.ranges.id.fits) in
    answer_written c.args.id (told_reply (code_view c.args.operation) c.args.reply.now) small c.requires
    (rw c.in-Err-Misfit.field-0-is at c.in-Err-Misfit.ensures.written)
