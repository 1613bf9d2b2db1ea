-- A message within the limits is a value of its type, so it has octets.
use Rattle.std.proofs.Common.{◌<◌, ◌^◌, arith}
use Rattle.x5_dispber.specs.ShadowViews.{told_shadow}
use Rattle.x5_dispber.proofs.Clock.{clock}
use Rattle.x5_model_shadowed.proofs.Fitting.{shadow_fits}
use Rattle.x5_types.specs.FormView.{world}
use Rattle.x5_shadow_wire.proofs.Shadowed.{shadow_written}
use Rattle.x5_shadow_wire.proofs.shadows.octets_of.Goals as goal

pub returns-in-Ok : goal.returns-in-Ok
returns-in-Ok c =
    let small : 1 < 2 ^ 32 = omega arith in
    c.in-Ok.ensures.spelled
    (shadow_fits (world c.args.start.now c.args.names.now) 1 (told_shadow c.args.names.now c.args.message.now) small
    c.requires)

pub unreachable-requires : goal.unreachable-requires
unreachable-requires c =
    let small : 1 < 2 ^ 32 = omega arith in
    shadow_written (world c.args.start.now c.args.names.now) (clock c.args.start.now c.args.names.now c.reads_back.ensures)
    1 (told_shadow c.args.names.now c.args.message.now) small c.requires
    (rw c.in-Err-Misfit.field-0-is at c.in-Err-Misfit.ensures.written)
