-- The last one, by its place.
use Rattle.std.proofs.Common.{ap₂, ◌∙◌}
use Rattle.x5_model.specs.Attributes.{value_below}
use Rattle.x5_direct.proofs.KeptValues.{last_follows}
use Rattle.x5_direct.proofs.entries.follows_values.Goals as goal

pub returns-in-Some : goal.returns-in-Some
returns-in-Some c =
    last_follows value_below c.args.values.now c.in-Some.last.now c.args.value.now c.is_below.result c.in-Some.ensures.value
    (c.is_below.ensures ∙ ap₂ value_below c.last-in-Some.view_is c.value.view_is)
