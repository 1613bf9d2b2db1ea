-- What is written of an update that brings all of a context is what is written of the message.
use Rattle.std.proofs.Common.{subst, sym}
use Rattle.x5_model_messages.specs.Shadows as shadows
use Rattle.x5_model_typed.specs.Named as named
use Rattle.x5_model_typed.specs.Written.{canonical_octets}
use Rattle.x5_types.specs.FormView.{world_table}
use Rattle.x5_writer.specs.Puts.{Writes}
use Rattle.x5_dispber.proofs.Totals.{tells_total}
use Rattle.x5_dispber.proofs.total.write_shadow.Goals as goal

pub returns-in-Update-default-default-Total : goal.returns-in-Update-default-default-Total
returns-in-Update-default-default-Total c =
    let names = c.args.names.now in
    let table = world_table c.args.start.now names in
    let all = c.in-Update-default-default-Total in
    let same = tells_total names c.args.message.now all.agreement all.stamp all.refresh all.content all.is
    (rw all.is at all.refresh-is) in
    subst (λ (m : shadows.Shadow). Writes (canonical_octets table named.DispMessage (shadows.shadow_node c.args.id m))
    c.write_update.result) (sym same)
    (rw all.refresh-is at c.write_update.ensures)
