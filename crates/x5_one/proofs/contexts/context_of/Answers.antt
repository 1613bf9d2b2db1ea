-- The first beginning of the key that is a pin, from the longest on, is the longest.
use Rattle.std.proofs.Common.{◌≡◌, ◌≤◌, ◌<◌, ℕ, length, map, get_or, arith, ap, subst, ◌∙◌, Err, Ok}
use Rattle.std.proofs.lemmas.List.{length-map}
use Rattle.x5_model.specs.Keys.{Key}
use Rattle.x5_one.specs.Places.{IsPlace}
use Rattle.x5_one.specs.Rows.{Row}
use Rattle.x5_one.proofs.Pins.{pin_at, pins_in_order, none_over_less, context_found, context_none, row_place}
use Rattle.x5_one.proofs.contexts.context_of.Goals as goal

pub place_of_pin-requires : goal.place_of_pin-requires
place_of_pin-requires c = pins_in_order c.args.held.now c.args.pins.now c.requires.rows c.requires.once

pub unreachable-requires : goal.unreachable-requires
unreachable-requires c =
    let place : c.pin.inside.place ≡ c.index-pins-at.result.1 = ap (λ (r : Row). r.1) c.pin.view_is in
    let within : c.in-Ok.at < length c.args.pins.now = (let w = c.in-Ok.ensures.0 in
    omega (arith, w, length-map c.args.pins.now pin_at)) in
    let l : c.index-pins-at.result.1 < length c.args.held.now =
    row_place c.args.held.now c.args.pins.now c.requires.rows c.requires.once c.in-Ok.at c.index-pins-at.result
    within c.index-pins-at.is in
    let m : length c.args.held.now ≤ c.pin.inside.place = c.in_default-get.ensures.lookup.3 in
    absurd (omega arith)

pub returns-in-Ok : goal.returns-in-Ok
returns-in-Ok c =
    let place : c.pin.inside.place ≡ c.index-pins-at.result.1 = ap (λ (r : Row). r.1) c.pin.view_is in
    context_found c.args.held.now c.args.pins.now c.requires.rows c.requires.once c.args.key.now c.loop-left.left
    c.in-Ok.at c.index-pins-at.result c.in-Some.found.now c.loop-left.invariant.0 c.loop-left.invariant.1
    (subst (λ (k : Key). IsPlace (map pin_at c.args.pins.now) k (Ok c.in-Ok.at)) c.in_ok-front.ensures c.in-Ok.ensures)
    c.index-pins-at.is (c.in-Some.ensures.lookup.3.1 c.in-Some.found.now
    ∙ ap (λ (k : ℕ). get_or c.args.held.now k c.in-Some.found.now) place)

pub loop-left-preserved-in_default : goal.loop-left-preserved-in_default
loop-left-preserved-in_default c = (
  (let l = c.loop-left.invariant.0 in omega arith),
  none_over_less c.args.held.now c.args.pins.now c.requires.rows c.requires.once c.args.key.now c.loop-left.left
      c.in_default.field-0 c.loop-left.invariant.1
      (subst (λ (k : Key). IsPlace (map pin_at c.args.pins.now) k
      (Err c.in_default.field-0)) c.in_ok-front.ensures c.in_default.ensures),
)

pub returns : goal.returns
returns c =
    context_none c.args.held.now c.args.pins.now c.requires.rows c.requires.once c.args.key.now
    (λ q i p. let l = c.loop-left.invariant.1 q i p in omega (arith, c.loop-left-test.false)) c.requires.filled
