-- The target has its place, the plan is the update's, and once there is room it can be carried out.
use Rattle.std.proofs.Common.{◌≡◌, sym, subst}
use Rattle.x5_model.specs.Keys.{Key}
use Rattle.x5_model.specs.Values.{key_of}
use Rattle.x5_ops.specs.ReferenceViews.{chained_view}
use Rattle.x5_ops.specs.RequestViews.{request_view}
use Rattle.x5_holdings.specs.State.{holdings_view}
use Rattle.x5_holdings.proofs.Holding.{some_within}
use Rattle.x5_update.specs.Seats.{IsSeat}
use Rattle.x5_update.proofs.Doing.{uncommitted}
use Rattle.x5_update.proofs.Placing.{target_of_due}
use Rattle.x5_update.proofs.Probing.{target_is}
use Rattle.x5_update.proofs.Roomy.{prepared}
use Rattle.x5_update.proofs.committing.make_ready.Goals as goal

pub place_of-place-requires : goal.place_of-place-requires
place_of-place-requires c =
    target_of_due (holdings_view c.args.state.now) (chained_view c.requires.0 c.args.message.now) c.requires.1.due

pub passed-requires-clause-seat : goal.passed-requires-clause-seat
passed-requires-clause-seat c =
    subst (λ (k : Key). IsSeat c.args.state.now (request_view c.args.message.now.request) k c.place_of-place.result.own c.place_of-place.result.node)
    (sym (target_is (chained_view c.requires.0 c.args.message.now) c.requires.1.due.fit)) c.place_of-place.ensures

pub make_room-requires : goal.make_room-requires
make_room-requires c =
    some_within c.args.state.now.own c.place_of-place.result.own c.place_of-place.ensures.kept c.place_of-place.ensures.held

pub returns-in-Err-clause-same : goal.returns-in-Err-clause-same
returns-in-Err-clause-same c =
    uncommitted c.args.state.now c.make_room.new.self c.place_of-place.result.own c.make_room.ensures.same

pub returns-in-Ok-clause-same : goal.returns-in-Ok-clause-same
returns-in-Ok-clause-same c =
    uncommitted c.args.state.now c.make_room.new.self c.place_of-place.result.own c.make_room.ensures.same

pub returns-in-Ok-clause-ok : goal.returns-in-Ok-clause-ok
returns-in-Ok-clause-ok c =
    let r = request_view c.args.message.now.request in
    let key = key_of c.args.message.now.target in
    let at : key ≡ _ = sym (target_is (chained_view c.requires.0 c.args.message.now) c.requires.1.due.fit) in
    prepared c.args.state.now r key c.place_of-place.result.own c.place_of-place.result.node c.place_of-place.ensures
    c.make_room.new.self c.in_ok-plan.plan c.in_ok-plan.ensures at c.make_room.ensures.same c.values_of.result
    c.in-Ok.ensures.ok c.values_of.ensures
