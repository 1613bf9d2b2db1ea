-- What refuses a modifyDN comes in its order; else the node is renamed.
use Rattle.std.proofs.Common.{◌≡◌, Err, sym, ◌∙◌}
use Rattle.std.proofs.lemmas.Result.{err_from_is_err_and}
use Rattle.x5_model.specs.Answers.{UpdateProblem}
use Rattle.x5_model.specs.Problems.{affects_multiple_dsas, entry_already_exists}
use Rattle.x5_model.specs.Changes.{renamed, single_valued}
use Rattle.x5_model.specs.Values.{key_of}
use Rattle.x5_model_tree.specs.Apply as model
use Rattle.x5_ops.specs.RequestViews.{request_view}
use Rattle.x5_holdings.proofs.Holding.{some_within}
use Rattle.x5_update.specs.Judging.{ground_in}
use Rattle.x5_update.proofs.Planning.{live_at, name_at, entry_at_node, rename_plan}
use Rattle.x5_update.proofs.Seats.{ground_found}
use Rattle.x5_update.proofs.Verdicts.{stopped_as, refused_as, rename_pinned, rename_refused, rename_taken}
use Rattle.x5_update.proofs.plans.rename.Goals as goal

pub returns-then-is_above_pin : goal.returns-then-is_above_pin
returns-then-is_above_pin c =
    let s = c.args.state.now in
    let r = request_view c.args.request.now in
    let name = c.args.object.now in
    let is = c.requires.seat in
    stopped_as c.refused.result (Err (UpdateProblem affects_multiple_dsas)) (model.rename (ground_in s r) name c.args.rdn.now c.args.drop_old)
    (rename_pinned (ground_in s r) name is.node.named (ground_found s r (key_of name) c.args.place.own c.args.place.node is)
    c.args.rdn.now c.args.drop_old (sym (c.is_above_pin.ensures r c.requires.update is) ∙ c.if-is_above_pin.true)) c.refused.ensures

pub tree_at-tree-requires : goal.tree_at-tree-requires
tree_at-tree-requires c = some_within c.args.state.now.own c.args.place.own c.requires.seat.kept c.requires.seat.held

pub entry-requires : goal.entry-requires
entry-requires c =
    live_at c.args.state.now (request_view c.args.request.now) (key_of c.args.object.now) c.args.place.own c.args.place.node c.requires.seat c.tree_at-tree.result.now
    (c.tree_at-tree.ensures c.requires.seat.kept c.requires.seat.held)

pub returns-in_err-entry : goal.returns-in_err-entry
returns-in_err-entry c =
    let s = c.args.state.now in
    let r = request_view c.args.request.now in
    let name = c.args.object.now in
    let is = c.requires.seat in
    let to = c.args.rdn.now in
    let drops = c.args.drop_old in
    let old : is.node.named.entry ≡ c.entry.result.now =
    entry_at_node s r (key_of name) c.args.place.own c.args.place.node is c.tree_at-tree.result.now c.entry.result.now
    (c.tree_at-tree.ensures is.kept is.held) c.entry.ensures.entry in
    let p = err_from_is_err_and c.from_residual-in_err-entry.result c.from_residual-in_err-entry.ensures.1 in
    rw (p.1, p.2) (refused_as c.in_err-entry.field-0.0 (single_valued (renamed c.in_ok-old.old to drops c.entry.result.now))
    (model.rename (ground_in s r) name to drops)
    (λ x q. rename_refused (ground_in s r) name is.node.named (ground_found s r (key_of name) c.args.place.own c.args.place.node is) to drops x
    (sym (c.is_above_pin.ensures r c.requires.update is) ∙ c.if-is_above_pin.false)
    ((λ i. single_valued (renamed (sym c.in_ok-old.ensures i) to drops (old i))) ∙ q))
    c.in_err-entry.ensures)

pub returns-then-branch : goal.returns-then-branch
returns-then-branch c =
    let s = c.args.state.now in
    let r = request_view c.args.request.now in
    let name = c.args.object.now in
    let is = c.requires.seat in
    let to = c.args.rdn.now in
    let drops = c.args.drop_old in
    let old : is.node.named.entry ≡ c.entry.result.now =
    entry_at_node s r (key_of name) c.args.place.own c.args.place.node is c.tree_at-tree.result.now c.entry.result.now
    (c.tree_at-tree.ensures is.kept is.held) c.entry.ensures.entry in
    stopped_as c.refused-then-branch.result (Err (UpdateProblem entry_already_exists)) (model.rename (ground_in s r) name to drops)
    (rename_taken (ground_in s r) name is.node.named (ground_found s r (key_of name) c.args.place.own c.args.place.node is) to drops
    c.in_ok-entry.entry (sym (c.is_above_pin.ensures r c.requires.update is) ∙ c.if-is_above_pin.false)
    ((λ i. single_valued (renamed (sym c.in_ok-old.ensures i) to drops (old i))) ∙ c.in_ok-entry.ensures)
    (sym c.in_ok-clashes.ensures ∙ c.if-branch.true)) c.refused-then-branch.ensures

pub name-requires : goal.name-requires
name-requires c =
    live_at c.args.state.now (request_view c.args.request.now) (key_of c.args.object.now) c.args.place.own c.args.place.node c.requires.seat c.tree_at-tree.result.now
    (c.tree_at-tree.ensures c.requires.seat.kept c.requires.seat.held)

pub returns : goal.returns
returns c =
    let s = c.args.state.now in
    let r = request_view c.args.request.now in
    let name = c.args.object.now in
    let is = c.requires.seat in
    rename_plan s r c.args.place.own c.args.place.node name is c.args.rdn.now c.args.drop_old c.in_ok-before.before c.entry.result.now
    c.in_ok-entry.entry c.in_ok-old.old c.in_ok-renamed_plan.field-0 c.requires.named
    (name_at s r (key_of name) c.args.place.own c.args.place.node is c.tree_at-tree.result.now c.in_ok-before.before
    (c.tree_at-tree.ensures is.kept is.held) c.in_ok-before.ensures)
    (entry_at_node s r (key_of name) c.args.place.own c.args.place.node is c.tree_at-tree.result.now c.entry.result.now
    (c.tree_at-tree.ensures is.kept is.held) c.entry.ensures.entry)
    c.in_ok-old.ensures c.in_ok-entry.ensures
    (sym (c.is_above_pin.ensures r c.requires.update is) ∙ c.if-is_above_pin.false)
    (sym c.in_ok-clashes.ensures ∙ c.if-branch.false) c.in_ok-renamed_plan.ensures
