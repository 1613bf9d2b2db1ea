-- A component is the first of those from its place on, through the view.
use Rattle.x5_types.specs.declared.form.Named.TheVariants.{DapRequest}
use Rattle.x5_types.specs.declared.form.Presence.TheVariants.{Required}
use Rattle.std.specs.declared.option.Option.TheVariants.{None}
use Rattle.x5_typed.proofs.Lists.{mapped_more}
use Rattle.x5_typed.proofs.slots.listed.Goals as goal
use Rattle.x5_types.specs.FormView.{component_view}

pub returns : goal.returns
returns c = mapped_more component_view c.args.components.now c.args.i
    (record { tag = None; form = DapRequest; presence = Required }) c.requires
