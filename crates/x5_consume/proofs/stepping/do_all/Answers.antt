-- One step more is done each time, until none is left.
use Rattle.std.proofs.Common.{◌≡◌, ◌∷◌, [], List, sym, subst, arith}
use Rattle.std.proofs.lemmas.List.{nil_from_length}
use Rattle.std.specs.Vec.Iter.{into_iter_items}
use Rattle.x5_consume.specs.declared.ready.Prepared.{Prepared}
use Rattle.x5_consume.proofs.Going.{Going, all_done, begun, next_going, next_stands}
use Rattle.x5_consume.proofs.stepping.do_all.Goals as goal

pub loop-one-init : goal.loop-one-init
loop-one-init c =
    subst (λ (l : List Prepared). Going c.args.state.now c.args.place c.args.stamp c.args.all.items c.args.state.now l)
    (sym c.into_iter-one-iterator.ensures.into_iter_gives.0)
    (begun c.args.state.now c.args.place c.args.stamp c.args.all.items c.requires)

pub do_one-requires : goal.do_one-requires
do_one-requires c =
    let steps : into_iter_items c.loop-one.one-iterator ≡ c.in-Some.one ∷ into_iter_items c.next.new.self = c.in-Some.ensures.steps.0 in
    next_stands c.args.state.now c.args.place c.args.stamp c.args.all.items c.loop-one.state c.in-Some.one
    (into_iter_items c.next.new.self)
    (subst (λ (l : List Prepared). Going c.args.state.now c.args.place c.args.stamp c.args.all.items c.loop-one.state l) steps
    c.loop-one.invariant)

pub loop-one-preserved : goal.loop-one-preserved
loop-one-preserved c =
    let steps : into_iter_items c.loop-one.one-iterator ≡ c.in-Some.one ∷ into_iter_items c.next.new.self = c.in-Some.ensures.steps.0 in
    next_going c.args.state.now c.args.place c.args.stamp c.args.all.items c.loop-one.state c.in-Some.one
    (into_iter_items c.next.new.self)
    (subst (λ (l : List Prepared). Going c.args.state.now c.args.place c.args.stamp c.args.all.items c.loop-one.state l) steps
    c.loop-one.invariant) c.do_one.new.state c.do_one.ensures

pub returns : goal.returns
returns c =
    let none : into_iter_items c.loop-one.one-iterator ≡ [] =
    nil_from_length _ (omega (arith, c.in-None.ensures.steps.0, c.loop-one.one-iterator.rest.ok.0)) in
    all_done c.args.state.now c.args.place c.args.stamp c.args.all.items c.loop-one.state
    (subst (λ (l : List Prepared). Going c.args.state.now c.args.place c.args.stamp c.args.all.items c.loop-one.state l) none
    c.loop-one.invariant)
