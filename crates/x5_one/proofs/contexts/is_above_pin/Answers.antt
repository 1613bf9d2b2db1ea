-- The first pin from the key's place on tells, since those that begin with the key stand together.
use Rattle.std.proofs.Common.{ap, ◌∙◌}
use Rattle.x5_model.specs.Keys.{is_prefix}
use Rattle.x5_one.specs.Rows.{Row}
use Rattle.x5_one.proofs.Pins.{above_itself, above_next, above_none}
use Rattle.x5_one.proofs.contexts.is_above_pin.Goals as goal

pub returns-in-Ok : goal.returns-in-Ok
returns-in-Ok c = above_itself c.args.pins.now c.requires c.args.key.now c.in-Ok.field-0 c.in-Ok.ensures

pub returns-in-Some : goal.returns-in-Some
returns-in-Some c =
    c.is_prefix.ensures ∙ ap (λ (r : Row). is_prefix c.args.key.now r.0) c.pin.view_is
    ∙ above_next c.args.pins.now c.requires c.args.key.now c.in-Err.at c.in-Some.pin.now c.in-Err.ensures
    c.in-Some.ensures.lookup.3

pub returns-in-None : goal.returns-in-None
returns-in-None c = above_none c.args.pins.now c.requires c.args.key.now c.in-Err.at c.in-Err.ensures
    c.in-None.ensures.lookup.3
