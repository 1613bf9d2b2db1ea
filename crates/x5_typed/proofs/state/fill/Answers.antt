-- A slot that is set, through the view.
use Rattle.std.specs.declared.option.Option.TheVariants.{Some}
use Rattle.std.proofs.lemmas.List.{map-set}
use Rattle.x5_typed.proofs.state.fill.Goals as goal
use Rattle.x5_types.specs.NodeView.{option_view}

pub returns-clause-seen : goal.returns-clause-seen
returns-clause-seen c = map-set option_view c.args.slots.now.items c.args.i (Some c.args.node)
