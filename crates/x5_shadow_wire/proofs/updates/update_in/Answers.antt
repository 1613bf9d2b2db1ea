-- Of a message that sends something it's what that says, and no other is one.
use Rattle.std.proofs.Common.{sym, ap, ◌∙◌}
use Rattle.x5_dispber.specs.ShadowViews.{told_shadow}
use Rattle.x5_shadow_wire.proofs.Telling.{agreement_in, refresh_in, stamp_in}
use Rattle.x5_shadow_wire.proofs.updates.update_in.Goals as goal

pub returns-in-Update : goal.returns-in-Update
returns-in-Update c = λ names agreement stamp sent e.
    let told = sym (ap (told_shadow names) c.in-Update.is) ∙ e in (
      ap agreement_in told,
      ap stamp_in told,
      c.brought_by.ensures names sent (ap refresh_in told),
    )
