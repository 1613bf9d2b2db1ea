-- The node is that of the lowest entry, whose name this is.
use Rattle.std.proofs.Common.{◌≡◌, true, List, get_or, Some, sym, subst, ap, ◌∙◌}
use Rattle.std.specs.List.{slice_get}
use Rattle.std.specs.Option.{option_map}
use Rattle.std.proofs.lemmas.Result.{IfOk-weaker}
use Rattle.x5_model.specs.Values.{Name}
use Rattle.x5_model.specs.Entries.{Named}
use Rattle.x5_dse.specs.Linked.{Nodes, name_in, node_with, is_live}
use Rattle.x5_holdings.specs.State.{Kept}
use Rattle.x5_find.specs.Finds.{IsLowest}
use Rattle.x5_agent.proofs.Replying.{held_there, lowest_live, lowest_named}
use Rattle.x5_agent.proofs.resolving.name_at.Goals as goal

pub name-requires : goal.name-requires
name-requires c =
    let x = c.index-own-own.result in
    let held : slice_get c.args.state.now.own c.args.own ≡ Some x = held_there c.args.state.now.own c.args.own
    c.requires.1.kept x c.requires.1.held
    (c.index-own-own.is ∙ ap (λ (l : List Kept). get_or l c.args.own x) c.own.ensures.own) in
    subst (λ (n : Nodes). is_live n.nodes c.args.node ≡ true) (sym c.tree.ensures.nodes)
    (lowest_live c.args.state.now c.args.own c.args.node c.requires.0 c.requires.1 x held)

pub returns : goal.returns
returns c =
    let x = c.index-own-own.result in
    let held : slice_get c.args.state.now.own c.args.own ≡ Some x = held_there c.args.state.now.own c.args.own
    c.requires.1.kept x c.requires.1.held
    (c.index-own-own.is ∙ ap (λ (l : List Kept). get_or l c.args.own x) c.own.ensures.own) in
    IfOk-weaker c.name.result
    (λ (name : Name). option_map name_in (node_with c.tree.result.now.nodes c.args.node) ≡ Some name)
    (λ (name : Name). (named : Named) → IsLowest c.args.state.now c.args.own c.args.node named → name ≡ named.name)
    (λ name p named low. lowest_named c.args.state.now c.args.own c.args.node named low x held name
    (subst (λ (n : Nodes). option_map name_in (node_with n.nodes c.args.node) ≡ Some name) c.tree.ensures.nodes p))
    c.name.ensures
