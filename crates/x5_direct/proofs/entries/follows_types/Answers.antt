-- The last one, by its place.
use Rattle.std.proofs.Common.{nat_lt, ap₂, ◌∙◌}
use Rattle.x5_model.specs.Attributes.{kind_below}
use Rattle.x5_direct.proofs.KeptValues.{last_follows}
use Rattle.x5_direct.proofs.entries.follows_types.Goals as goal

pub returns-in-Some : goal.returns-in-Some
returns-in-Some c =
    last_follows kind_below c.args.attributes.now c.in-Some.last.now c.args.attribute.now _ c.in-Some.ensures.value
    (ap₂ nat_lt c.number.ensures.same c.number-in-Some.ensures.same ∙ ap₂ kind_below c.last-in-Some.view_is c.attribute.view_is)
