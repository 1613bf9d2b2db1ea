-- An entry at which, or below which, a pin or an entry stands stays; any other goes.
use Rattle.std.proofs.Common.{◌≡◌, false, Err, sym, ◌∙◌}
use Rattle.x5_model.specs.Answers.{UpdateProblem}
use Rattle.x5_model.specs.Problems.{affects_multiple_dsas, not_allowed_on_non_leaf}
use Rattle.x5_model.specs.Values.{key_of}
use Rattle.x5_model_tree.specs.Apply as model
use Rattle.x5_ops.specs.RequestViews.{request_view}
use Rattle.x5_holdings.proofs.Holding.{some_within}
use Rattle.x5_update.specs.Judging.{ground_in}
use Rattle.x5_update.proofs.Planning.{live_at, name_at, there_at, remove_plan}
use Rattle.x5_update.proofs.Seats.{ground_found}
use Rattle.x5_update.proofs.Verdicts.{stopped_as, remove_pinned, remove_filled}
use Rattle.x5_update.proofs.plans.remove.Goals as goal

pub returns-then-is_above_pin : goal.returns-then-is_above_pin
returns-then-is_above_pin c =
    let s = c.args.state.now in
    let r = request_view c.args.request.now in
    let name = c.args.object.now in
    let is = c.requires.seat in
    stopped_as c.refused.result (Err (UpdateProblem affects_multiple_dsas)) (model.remove (ground_in s r) name)
    (remove_pinned (ground_in s r) name is.node.named (ground_found s r (key_of name) c.args.place.own c.args.place.node is)
    (sym (c.is_above_pin.ensures r c.requires.update is) ∙ c.if-is_above_pin.true)) c.refused.ensures

pub tree_at-tree-requires : goal.tree_at-tree-requires
tree_at-tree-requires c = some_within c.args.state.now.own c.args.place.own c.requires.seat.kept c.requires.seat.held

pub has_children-requires : goal.has_children-requires
has_children-requires c =
    record {
      live = live_at c.args.state.now (request_view c.args.request.now) (key_of c.args.object.now) c.args.place.own c.args.place.node c.requires.seat c.tree_at-tree.result.now
          (c.tree_at-tree.ensures c.requires.seat.kept c.requires.seat.held);
    }

pub returns-then-has_children : goal.returns-then-has_children
returns-then-has_children c =
    let s = c.args.state.now in
    let r = request_view c.args.request.now in
    let name = c.args.object.now in
    let is = c.requires.seat in
    let none : model.above_pin (ground_in s r) (key_of name) ≡ false =
    sym (c.is_above_pin.ensures r c.requires.update is) ∙ c.if-is_above_pin.false in
    stopped_as c.refused-then-has_children.result (Err (UpdateProblem not_allowed_on_non_leaf)) (model.remove (ground_in s r) name)
    (remove_filled (ground_in s r) name is.node.named (ground_found s r (key_of name) c.args.place.own c.args.place.node is) none
    (sym (there_at s r (key_of name) c.args.place.own c.args.place.node is c.tree_at-tree.result.now
    (c.tree_at-tree.ensures is.kept is.held) c.has_children.result c.has_children.ensures none) ∙ c.if-has_children.true))
    c.refused-then-has_children.ensures

pub name-requires : goal.name-requires
name-requires c =
    live_at c.args.state.now (request_view c.args.request.now) (key_of c.args.object.now) c.args.place.own c.args.place.node c.requires.seat c.tree_at-tree.result.now
    (c.tree_at-tree.ensures c.requires.seat.kept c.requires.seat.held)

pub returns : goal.returns
returns c =
    let s = c.args.state.now in
    let r = request_view c.args.request.now in
    let name = c.args.object.now in
    let is = c.requires.seat in
    let none : model.above_pin (ground_in s r) (key_of name) ≡ false =
    sym (c.is_above_pin.ensures r c.requires.update is) ∙ c.if-is_above_pin.false in
    remove_plan s r c.args.place.own c.args.place.node name is c.in_ok-name.name
    (name_at s r (key_of name) c.args.place.own c.args.place.node is c.tree_at-tree.result.now c.in_ok-name.name
    (c.tree_at-tree.ensures is.kept is.held) c.in_ok-name.ensures) none
    (sym (there_at s r (key_of name) c.args.place.own c.args.place.node is c.tree_at-tree.result.now
    (c.tree_at-tree.ensures is.kept is.held) c.has_children.result c.has_children.ensures none) ∙ c.if-has_children.false)
