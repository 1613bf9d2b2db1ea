-- What stands in the slot is the component's value.
use Rattle.std.proofs.Common.{◌+◌, ◌∷◌, List, drop, map, ap, sym, ◌∙◌}
use Rattle.std.specs.declared.option.Option.{Option}
use Rattle.x5_model_typed.specs.Nodes as nodes
use Rattle.x5_model_typed.specs.Named.{DapRequest}
use Rattle.x5_model_typed.specs.Forms as forms
use Rattle.x5_model_typed.specs.Judged as judged
use Rattle.x5_types.specs.NodeView.{node_view, option_view}
use Rattle.x5_typed.specs.StateView.{left_view}
use Rattle.x5_typed.proofs.SlotLaws.{one_given}
use Rattle.x5_typed.proofs.state.filled.Goals as goal

pub returns-in-Some-clause-item : goal.returns-in-Some-clause-item
returns-in-Some-clause-item c =
    let left = left_view c.args.left.now in
    let old = drop (c.args.i + 1) (map option_view c.args.slots.now.items) in
    one_given left c.args.i (drop c.args.i (map option_view c.args.slots.now.items)) old (node_view c.in-Some.node)
    (forms.plain DapRequest) c.requires.place c.in-Some.ensures.item
    ∙ ap (λ (l : List (Option nodes.Node)). node_view c.in-Some.node ∷ judged.filled (drop (c.args.i + 1) left) l)
    (sym c.in-Some.ensures.later)
