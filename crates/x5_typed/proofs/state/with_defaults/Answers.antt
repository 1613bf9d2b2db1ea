-- The nodes, and the values of the components that are left, are the parts.
use Rattle.std.proofs.Common.{◌≡◌, ◌++◌, true, List, map, take, ap, sym, ◌∙◌, arith}
use Rattle.std.proofs.lemmas.List.{take_all}
use Rattle.std.specs.List.{list_all}
use Rattle.std.specs.declared.option.Option.TheVariants.{Some}
use Rattle.x5_model_typed.specs.Nodes as nodes
use Rattle.x5_model_typed.specs.Forms as forms
use Rattle.x5_model_typed.specs.Judged as judged
use Rattle.x5_types.proofs.Nodes.{many_of_items}
use Rattle.x5_typed.proofs.state.with_defaults.Goals as goal
use Rattle.x5_types.specs.NodeView.{node_view}
use Rattle.x5_typed.specs.StateView.{left_view}

pub returns : goal.returns
returns c =
    let left = left_view c.args.left.now in
    let before = map node_view c.args.nodes.items in
    let all : list_all judged.may_be_missing left ≡ true =
    cc (c.may_all_be_missing.ensures, c.if-not-may_all_be_missing.false, c.if-not-may_all_be_missing.ensures) in
    let whole : take c.len.result left ≡ left = take_all c.len.result left (omega (arith, c.len.ensures)) in
    rw all (ap (λ (n : nodes.Node). Some n) (sym (many_of_items c.push_defaults.new.nodes)
    ∙ ap (λ (l : List nodes.Node). nodes.Many (nodes.row l)) (c.in_ok-push_defaults.ensures
    ∙ ap (λ (cs : List forms.Component). before ++ map judged.default_of cs) whole)))
