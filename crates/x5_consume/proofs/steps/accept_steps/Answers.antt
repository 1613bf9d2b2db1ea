-- The steps can be done on the copy at the place that the table gives, once there is room; and then they are done.
use Rattle.std.proofs.Common.{ap, ◌∙◌, Option}
use Rattle.std.specs.Option.{is_some}
use Rattle.x5_model.specs.Values.{key_of}
use Rattle.x5_model_run.specs.Holdings.{Copy}
use Rattle.x5_holdings.specs.Placed.{IsBroughtChanged}
use Rattle.x5_holdings.proofs.Holding.{some_within}
use Rattle.x5_consume.specs.Ready.{steps_in, values_in}
use Rattle.x5_consume.specs.Taken.{AreDone}
use Rattle.x5_consume.proofs.Placing.{at_place}
use Rattle.x5_consume.proofs.Taking.{advanced, got_changed, is_refreshed, on_err, room_alone, stands}
use Rattle.x5_consume.proofs.steps.accept_steps.Goals as goal

pub place_of-place-requires : goal.place_of-place-requires
place_of-place-requires c = ap (λ (o : Option Copy). is_some o) c.requires.there

pub make_room_at_copy-requires-clause-there : goal.make_room_at_copy-requires-clause-there
make_room_at_copy-requires-clause-there c =
    let at = at_place c.args.state.now (key_of c.args.context.now) c.place_of-place.result c.place_of-place.ensures in
    some_within c.args.state.now.copies c.place_of-place.result at.copy at.got

pub make_room_at_copy-requires-clause-refreshed : goal.make_room_at_copy-requires-clause-refreshed
make_room_at_copy-requires-clause-refreshed c =
    let at = at_place c.args.state.now (key_of c.args.context.now) c.place_of-place.result c.place_of-place.ensures in
    is_refreshed c.args.state.now (key_of c.args.context.now) c.place_of-place.result at c.args.steps c.requires

pub returns-in_err-make_room_at_copy-clause-err : goal.returns-in_err-make_room_at_copy-clause-err
returns-in_err-make_room_at_copy-clause-err c =
    on_err c.from_residual-in_err-make_room_at_copy.result
    (room_alone c.args.state.now c.make_room_at_copy.new.self c.place_of-place.result c.make_room_at_copy.ensures.same)

pub do_all-requires : goal.do_all-requires
do_all-requires c =
    let at = at_place c.args.state.now (key_of c.args.context.now) c.place_of-place.result c.place_of-place.ensures in
    stands c.args.state.now (key_of c.args.context.now) c.place_of-place.result at c.args.steps c.requires
    c.make_room_at_copy.new.self c.in_ok-all.all.items c.in_ok-all.ensures.steps c.in_ok-all.ensures.prepared c.len-count.result
    c.in_ok-values.values c.len-count.ensures (c.in_ok-values.ensures ∙ ap values_in c.deref.ensures.value)
    c.in_ok-make_room_at_copy.ensures.ok

pub set_stamp-requires : goal.set_stamp-requires
set_stamp-requires c =
    some_within c.do_all.new.state.copies c.place_of-place.result c.do_all.ensures.after
    (got_changed c.make_room_at_copy.new.self c.do_all.new.state c.place_of-place.result
    (IsBroughtChanged (AreDone (steps_in c.in_ok-all.all.items) c.args.stamp)) c.do_all.ensures)

pub returns-clause-ok : goal.returns-clause-ok
returns-clause-ok c =
    let at = at_place c.args.state.now (key_of c.args.context.now) c.place_of-place.result c.place_of-place.ensures in
    advanced c.args.state.now (key_of c.args.context.now) c.place_of-place.result at c.args.steps c.requires
    c.make_room_at_copy.new.self c.in_ok-all.all.items c.in_ok-all.ensures.steps c.in_ok-all.ensures.prepared c.len-count.result
    c.in_ok-values.values c.len-count.ensures (c.in_ok-values.ensures ∙ ap values_in c.deref.ensures.value)
    c.in_ok-make_room_at_copy.ensures.ok
    c.do_all.new.state c.set_stamp.new.self c.args.stamp c.do_all.ensures c.set_stamp.ensures
