-- The values of all components are the parts.
use Rattle.std.proofs.Common.{◌≡◌, ◌++◌, true, List, [], map, drop, ap, sym, ◌∙◌, arith, append-nil}
use Rattle.std.specs.declared.option.Option.{Option}
use Rattle.std.specs.declared.option.Option.TheVariants.{Some}
use Rattle.x5_types.specs.declared.node.Node.{Node}
use Rattle.x5_model_typed.specs.Nodes as nodes
use Rattle.x5_model_typed.specs.Forms as forms
use Rattle.x5_model_typed.specs.Judged as judged
use Rattle.x5_types.specs.NodeView.{node_view, option_view}
use Rattle.x5_typed.specs.StateView.{left_view}
use Rattle.x5_types.proofs.Nodes.{many_of_items}
use Rattle.std.proofs.lemmas.List.{drop_all}
use Rattle.x5_typed.proofs.state.with_slots.Goals as goal

pub returns : goal.returns
returns c =
    let left = left_view c.args.left.now in
    let slots = map option_view c.args.slots.items in
    let all : judged.all_filled left slots ≡ true =
    sym (sym c.if-not-are_filled.false ∙ c.are_filled.ensures
    ∙ ap (λ (l : List (Option Node)). judged.all_filled left (map option_view l)) c.deref.ensures.value) in
    let over : drop c.loop-i.i left ≡ [] = drop_all c.loop-i.i left
    (omega (arith, c.loop-i-test.false, c.len-i-end.ensures)) in
    let whole : map node_view c.loop-i.nodes.items ≡ judged.filled left slots =
    sym (append-nil (map node_view c.loop-i.nodes.items))
    ∙ sym (ap (λ (l : List forms.Component). map node_view c.loop-i.nodes.items
    ++ judged.filled l (drop c.loop-i.i (map option_view c.loop-i.slots.items))) over) ∙ c.loop-i.invariant.same in
    rw all (ap (λ (n : nodes.Node). Some n) (sym (many_of_items c.loop-i.nodes)
    ∙ ap (λ (l : List nodes.Node). nodes.Many (nodes.row l)) whole))
