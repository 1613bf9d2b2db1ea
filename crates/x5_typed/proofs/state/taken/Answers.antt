-- What stood in the slot, and that what stands behind it stays, through the view.
use Rattle.std.proofs.Common.{◌+◌, ◌∷◌, List, drop, map, ap, sym, ◌∙◌, arith}
use Rattle.std.specs.declared.option.Option.{Option}
use Rattle.std.proofs.lemmas.List.{map-set, drop-set-lt}
use Rattle.x5_model_typed.specs.Nodes as nodes
use Rattle.x5_types.specs.declared.node.Node.{Node}
use Rattle.x5_types.specs.NodeView.{option_view}
use Rattle.x5_typed.proofs.Lists.{mapped_more}
use Rattle.x5_typed.proofs.state.taken.Goals as goal

pub returns-clause-item : goal.returns-clause-item
returns-clause-item c =
    let items = c.args.slots.now.items in
    mapped_more option_view items c.args.i c.index_mut.result.now c.requires
    ∙ ap (λ (o : Option Node). option_view o ∷ drop (c.args.i + 1) (map option_view items))
    (sym c.index_mut.ensures.value ∙ sym c.take.ensures.value)

pub returns-clause-later : goal.returns-clause-later
returns-clause-later c =
    let items = c.args.slots.now.items in
    ap (λ (l : List (Option nodes.Node)). drop (c.args.i + 1) l) (map-set option_view items c.args.i c.take.new.self)
    ∙ drop-set-lt (c.args.i + 1) (map option_view items) c.args.i (option_view c.take.new.self) (omega arith)
