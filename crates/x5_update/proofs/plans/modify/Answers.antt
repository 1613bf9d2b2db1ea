-- A refusal of the entry's change is that of the update; else the entry is replaced.
use Rattle.std.proofs.Common.{◌≡◌, map, sym, ◌∙◌}
use Rattle.std.proofs.lemmas.Result.{err_from_is_err_and}
use Rattle.x5_model.specs.Changes.{modified}
use Rattle.x5_model.specs.Values.{key_of}
use Rattle.x5_model_tree.specs.Apply as model
use Rattle.x5_ops.specs.RequestViews.{change_view, request_view}
use Rattle.x5_holdings.proofs.Holding.{some_within}
use Rattle.x5_update.specs.Judging.{ground_in}
use Rattle.x5_update.proofs.Planning.{live_at, name_at, entry_at_node, modify_plan}
use Rattle.x5_update.proofs.Seats.{ground_found}
use Rattle.x5_update.proofs.Verdicts.{refused_as, modify_refused}
use Rattle.x5_update.proofs.plans.modify.Goals as goal

pub tree_at-tree-requires : goal.tree_at-tree-requires
tree_at-tree-requires c = some_within c.args.state.now.own c.args.place.own c.requires.seat.kept c.requires.seat.held

pub entry-requires : goal.entry-requires
entry-requires c =
    live_at c.args.state.now (request_view c.args.request.now) (key_of c.args.object.now) c.args.place.own c.args.place.node c.requires.seat c.tree_at-tree.result.now
    (c.tree_at-tree.ensures c.requires.seat.kept c.requires.seat.held)

pub returns-in_err-entry : goal.returns-in_err-entry
returns-in_err-entry c =
    let s = c.args.state.now in
    let r = request_view c.args.request.now in
    let name = c.args.object.now in
    let is = c.requires.seat in
    let list = map change_view c.args.changes.now in
    let old : is.node.named.entry ≡ c.entry.result.now =
    entry_at_node s r (key_of name) c.args.place.own c.args.place.node is c.tree_at-tree.result.now c.entry.result.now
    (c.tree_at-tree.ensures is.kept is.held) c.entry.ensures.entry in
    let p = err_from_is_err_and c.from_residual-in_err-entry.result c.from_residual-in_err-entry.ensures.1 in
    rw (p.1, p.2) (refused_as c.in_err-entry.field-0.0 (modified c.in_ok-rdn.rdn list c.entry.result.now) (model.modify (ground_in s r) name list)
    (λ x q. modify_refused (ground_in s r) name is.node.named (ground_found s r (key_of name) c.args.place.own c.args.place.node is) list x
    ((λ i. modified (sym c.in_ok-rdn.ensures i) list (old i)) ∙ q))
    c.in_err-entry.ensures)

pub name-requires : goal.name-requires
name-requires c =
    live_at c.args.state.now (request_view c.args.request.now) (key_of c.args.object.now) c.args.place.own c.args.place.node c.requires.seat c.tree_at-tree.result.now
    (c.tree_at-tree.ensures c.requires.seat.kept c.requires.seat.held)

pub returns : goal.returns
returns c =
    let s = c.args.state.now in
    let r = request_view c.args.request.now in
    let name = c.args.object.now in
    let is = c.requires.seat in
    modify_plan s r c.args.place.own c.args.place.node name is (map change_view c.args.changes.now) c.in_ok-name.name c.entry.result.now
    c.in_ok-entry.entry c.in_ok-rdn.rdn c.in_ok-modified_plan.field-0
    (name_at s r (key_of name) c.args.place.own c.args.place.node is c.tree_at-tree.result.now c.in_ok-name.name
    (c.tree_at-tree.ensures is.kept is.held) c.in_ok-name.ensures)
    (entry_at_node s r (key_of name) c.args.place.own c.args.place.node is c.tree_at-tree.result.now c.entry.result.now
    (c.tree_at-tree.ensures is.kept is.held) c.entry.ensures.entry)
    c.in_ok-rdn.ensures c.in_ok-entry.ensures c.in_ok-modified_plan.ensures
