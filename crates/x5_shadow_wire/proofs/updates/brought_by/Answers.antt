-- What nothing and what no changes bring is the same.
use Rattle.std.proofs.Common.{sym, ap, ◌∙◌}
use Rattle.x5_dispber.specs.ShadowViews.{told_refresh}
use Rattle.x5_shadow_wire.proofs.Telling.{steps_bring}
use Rattle.x5_shadow_wire.proofs.updates.brought_by.Goals as goal

pub returns-in-Steps : goal.returns-in-Steps
returns-in-Steps c = λ names sent e.
    steps_bring names c.in-Steps.steps sent (sym (ap (told_refresh names) c.in-Steps.is) ∙ e)
