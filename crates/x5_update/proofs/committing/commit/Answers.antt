-- What was made ready can be carried out, and then what is committed is held.
use Rattle.std.proofs.Common.{◌≡◌, ℕ, refl, subst}
use Rattle.x5_model.specs.Values.{key_of}
use Rattle.x5_model_run.specs.Needs.{target_of}
use Rattle.x5_holdings.specs.Making.{IsChanged}
use Rattle.x5_holdings.specs.Placed.{IsOwnChanged}
use Rattle.x5_holdings.proofs.Holding.{some_within}
use Rattle.x5_update.specs.Plans.{values_in}
use Rattle.x5_update.proofs.Doing.{committed_so, ready_so, room_so}
use Rattle.x5_update.proofs.Roomy.{has_room, no_more}
use Rattle.x5_update.proofs.committing.commit.Goals as goal

pub change-requires-clause-there : goal.change-requires-clause-there
change-requires-clause-there c =
    some_within c.args.state.now.own c.args.update.own c.requires.1.seat.kept c.requires.1.seat.held

pub change-requires-clause-ready : goal.change-requires-clause-ready
change-requires-clause-ready c = λ k got.
    let s = c.args.state.now in
    let r = c.requires.0 in
    let update = c.args.update in
    let p = c.requires.1 in
    ready_so s r (key_of (target_of r.body)) update.own p.node p.seat s update.plan p.plan refl
    (no_more s update.own p.seat.kept p.seat.held) (values_in update.plan.change) (has_room s r update p) k got refl

pub change-requires-clause-room : goal.change-requires-clause-room
change-requires-clause-room c = λ k got.
    let s = c.args.state.now in
    let r = c.requires.0 in
    let update = c.args.update in
    let p = c.requires.1 in
    room_so s r (key_of (target_of r.body)) update.own p.node p.seat s update.plan p.plan refl
    (no_more s update.own p.seat.kept p.seat.held) (values_in update.plan.change) (has_room s r update p) k got

pub returns : goal.returns
returns c = λ r p.
    let s = c.args.state.now in
    let update = c.args.update in
    committed_so s r (key_of (target_of r.body)) update.own p.node p.seat s update.plan p.plan refl
    (no_more s update.own p.seat.kept p.seat.held) c.change.new.self
    (subst (λ (n : ℕ). IsOwnChanged s update.own
    (λ before after. IsChanged before update.plan.change (record { moment = n; step = update.plan.step }) after) c.change.new.self)
    c.moment-moment.ensures c.change.ensures)
