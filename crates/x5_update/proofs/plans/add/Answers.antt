-- A new name that is taken is refused; any other comes below the entry above it.
use Rattle.std.proofs.Common.{Err, map, sym, ◌∙◌}
use Rattle.x5_model.specs.Keys.{parent}
use Rattle.x5_model.specs.Answers.{UpdateProblem}
use Rattle.x5_model.specs.Problems.{entry_already_exists}
use Rattle.x5_model.specs.Values.{key_of}
use Rattle.x5_model_tree.specs.Apply as model
use Rattle.x5_ops.specs.RequestViews.{attribute_view, request_view}
use Rattle.x5_holdings.proofs.Holding.{some_within}
use Rattle.x5_update.specs.Judging.{ground_in}
use Rattle.x5_update.proofs.Planning.{live_at, name_at, add_plan}
use Rattle.x5_update.proofs.Seats.{ground_found}
use Rattle.x5_update.proofs.Verdicts.{stopped_as, add_refused}
use Rattle.x5_update.proofs.plans.add.Goals as goal

pub returns-then-is_taken : goal.returns-then-is_taken
returns-then-is_taken c =
    let s = c.args.state.now in
    let r = request_view c.args.request.now in
    let name = c.args.object.now in
    let is = c.requires.seat in
    let attributes = map attribute_view c.args.attributes.now in
    stopped_as c.refused.result (Err (UpdateProblem entry_already_exists)) (model.add (ground_in s r) name attributes)
    (add_refused (ground_in s r) name is.node.named attributes
    (ground_found s r (parent (key_of name)) c.args.place.own c.args.place.node is) (sym c.is_taken.ensures ∙ c.if-is_taken.true))
    c.refused.ensures

pub tree_at-requires : goal.tree_at-requires
tree_at-requires c = some_within c.args.state.now.own c.args.place.own c.requires.seat.kept c.requires.seat.held

pub name-requires : goal.name-requires
name-requires c =
    live_at c.args.state.now (request_view c.args.request.now) (parent (key_of c.args.object.now)) c.args.place.own c.args.place.node c.requires.seat c.tree_at.result.now
    (c.tree_at.ensures c.requires.seat.kept c.requires.seat.held)

pub returns : goal.returns
returns c =
    let s = c.args.state.now in
    let r = request_view c.args.request.now in
    let name = c.args.object.now in
    let is = c.requires.seat in
    add_plan s r c.args.place.own c.args.place.node name (map attribute_view c.args.attributes.now) is c.in_ok-above.above c.in_ok-rdn.rdn
    c.in_ok-entry.entry c.in_ok-added_plan.field-0 c.requires.apart c.in_ok-rdn.ensures c.in_ok-entry.ensures
    (name_at s r (parent (key_of name)) c.args.place.own c.args.place.node is c.tree_at.result.now c.in_ok-above.above
    (c.tree_at.ensures is.kept is.held) c.in_ok-above.ensures)
    (sym c.is_taken.ensures ∙ c.if-is_taken.false) c.in_ok-added_plan.ensures
