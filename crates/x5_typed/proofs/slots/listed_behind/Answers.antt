-- What stands behind a component, through the view.
use Rattle.std.proofs.Common.{◌-◌, ◌+◌, drop, length, ap, sym, ◌∙◌, arith}
use Rattle.std.proofs.lemmas.List.{drop-map, take_all, length-drop}
use Rattle.x5_typed.proofs.slots.listed_behind.Goals as goal
use Rattle.x5_types.specs.FormView.{component_view, components_view}

pub returns : goal.returns
returns c =
    let xs = drop (c.args.i + 1) c.args.components.now in
    ap components_view (take_all (length c.args.components.now - (c.args.i + 1)) xs
    (omega (arith, length-drop (c.args.i + 1) c.args.components.now)))
    ∙ sym (drop-map component_view (c.args.i + 1) c.args.components.now)
