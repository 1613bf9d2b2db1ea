-- The target is an entry of the context of the longest known pin on the way.
use Rattle.std.proofs.Common.{◌≡◌, List, get_or, Some, None, sym, subst, ap, ◌∙◌}
use Rattle.std.specs.List.{slice_get}
use Rattle.std.specs.Option.{option_map}
use Rattle.x5_model.specs.Values.{key_of}
use Rattle.x5_ops.specs.RequestViews.{request_view}
use Rattle.x5_dse.specs.Linked.{Nodes, AreNumbered, IsLinked, id_of, node_at}
use Rattle.x5_holdings.specs.State.{Kept}
use Rattle.x5_holdings.proofs.Holding.{got}
use Rattle.x5_update.proofs.Nodes.{live_found}
use Rattle.x5_update.proofs.Placing.{own_within, some_node, seat_of}
use Rattle.x5_update.proofs.place.place_of.Goals as goal

pub entry-requires : goal.entry-requires
entry-requires c =
    live_found c.tree-tree.result.now.nodes (key_of c.args.message.now.target) c.in-Some.node (sym c.in-Some.is ∙ c.find.ensures)

pub unreachable-requires : goal.unreachable-requires
unreachable-requires c =
    let x = c.index-own-own.result in
    let s = c.args.state.now in
    let r = request_view c.args.message.now.request in
    let target = c.args.message.now.target in
    let held : slice_get s.own c.context_of-own.result ≡ Some x = got s.own c.context_of-own.result x
    (own_within s r target c.requires c.context_of-own.result c.context_of-own.ensures)
    (c.index-own-own.is ∙ ap (λ (l : List Kept). get_or l c.context_of-own.result x) c.own.ensures.own) in
    let w = some_node s r target c.requires c.context_of-own.result x c.context_of-own.ensures held
    (node_at x.nodes.nodes (key_of target)) (λ i. node_at x.nodes.nodes (key_of target)) in
    let a : None ≡ option_map id_of (node_at x.nodes.nodes (key_of target)) = sym c.in-None.is ∙ c.find.ensures
    ∙ ap (λ (n : Nodes). option_map id_of (node_at n.nodes (key_of target))) c.tree-tree.ensures.nodes in
    let b : option_map id_of (node_at x.nodes.nodes (key_of target)) ≡ Some w.0.id = ap (option_map id_of) w.1 in
    let e : None ≡ Some w.0.id = a ∙ b in
    cc

pub returns : goal.returns
returns c =
    let x = c.index-own-own.result in
    let s = c.args.state.now in
    let r = request_view c.args.message.now.request in
    let target = c.args.message.now.target in
    let held : slice_get s.own c.context_of-own.result ≡ Some x = got s.own c.context_of-own.result x
    (own_within s r target c.requires c.context_of-own.result c.context_of-own.ensures)
    (c.index-own-own.is ∙ ap (λ (l : List Kept). get_or l c.context_of-own.result x) c.own.ensures.own) in
    seat_of s r target c.requires c.context_of-own.result x c.context_of-own.ensures held c.in-Some.node
    (sym c.in-Some.is ∙ c.find.ensures
    ∙ ap (λ (n : Nodes). option_map id_of (node_at n.nodes (key_of target))) c.tree-tree.ensures.nodes)
    (subst (λ (n : Nodes). IsLinked n.nodes) c.tree-tree.ensures.nodes c.entry.ensures.linked)
    (subst (λ (n : Nodes). AreNumbered n.nodes) c.tree-tree.ensures.nodes c.entry.ensures.numbered)
    c.tree-tree.ensures.kept c.own.ensures.apart
