-- The way tells whether the name is there, and whether the one just above it is; a name that isn't below the prefix isn't there,
-- and nor is the one just above it.
use Rattle.std.proofs.Common.{◌≡◌, ◌≢◌, ◌+◌, ◌<◌, [], length, get_or, sym, ◌∙◌, arith, refl, Err}
use Rattle.std.proofs.lemmas.List.{length-map}
use Rattle.x5_model.specs.Keys.{parent}
use Rattle.x5_model.specs.Values.{key_of_rdn, key_of}
use Rattle.x5_dse.specs.Inside.{spots_of, IsPlace, IsDown}
use Rattle.x5_dse.proofs.Named.{there_if_used, absent_if}
use Rattle.x5_dse.proofs.Ways.{outside, above_outside, not_there, above_not_there, reached, site}
use Rattle.x5_dse.proofs.place.site_of.Goals as goal

pub returns-in_default : goal.returns-in_default
returns-in_default c = (
  absent_if c.args.prefix.now c.args.slots.now c.args.order.now c.requires (key_of c.args.name.now) (outside c.args.prefix.now c.args.slots.now c.args.order.now c.requires (key_of c.args.name.now) c.in_default.ensures.down),
  absent_if c.args.prefix.now c.args.slots.now c.args.order.now c.requires (parent (key_of c.args.name.now)) (above_outside c.args.prefix.now c.args.slots.now c.args.order.now c.requires (key_of c.args.name.now) c.in_default.ensures.down),
)

pub returns-then-way-len : goal.returns-then-way-len
returns-then-way-len c =
    let down : IsDown c.args.prefix.now c.args.slots.now c.args.order.now (key_of c.args.name.now) c.in-Some.way.node c.in-Some.way.count = c.in-Some.ensures.down in
    let all : c.in-Some.way.count ≡ length (key_of c.args.name.now) = c.if-way-len.true ∙ c.len.ensures ∙ sym (length-map c.args.name.now key_of_rdn) in
    there_if_used c.args.prefix.now c.args.slots.now c.args.order.now c.requires c.in-Some.way.node (key_of c.args.name.now) down.used
    (reached c.args.prefix.now c.args.slots.now c.args.order.now c.requires (key_of c.args.name.now) c.in-Some.way.node c.in-Some.way.count down all)

pub returns-then-way-len-2 : goal.returns-then-way-len-2
returns-then-way-len-2 c =
    let down : IsDown c.args.prefix.now c.args.slots.now c.args.order.now (key_of c.args.name.now) c.in-Some.way.node c.in-Some.way.count = c.in-Some.ensures.down in
    let less : c.in-Some.way.count + 1 < length (key_of c.args.name.now) = omega (arith, c.len-2.ensures, length-map c.args.name.now key_of_rdn) in (
      absent_if c.args.prefix.now c.args.slots.now c.args.order.now c.requires (key_of c.args.name.now)
          (not_there c.args.prefix.now c.args.slots.now c.args.order.now c.requires (key_of c.args.name.now) c.in-Some.way.node c.in-Some.way.count down (omega arith)),
      absent_if c.args.prefix.now c.args.slots.now c.args.order.now c.requires (parent (key_of c.args.name.now))
          (above_not_there c.args.prefix.now c.args.slots.now c.args.order.now c.requires (key_of c.args.name.now) c.in-Some.way.node c.in-Some.way.count down less),
    )

pub returns : goal.returns
returns c =
    let down : IsDown c.args.prefix.now c.args.slots.now c.args.order.now (key_of c.args.name.now) c.in-Some.way.node c.in-Some.way.count = c.in-Some.ensures.down in
    let less : c.in-Some.way.count < length c.args.name.now = (let w = down.within in let m : c.in-Some.way.count ≢ length c.args.name.now = (λ e. c.if-way-len.false (e ∙ sym c.len.ensures)) in omega (arith, length-map c.args.name.now key_of_rdn)) in
    let all : c.in-Some.way.count + 1 ≡ length c.args.name.now = (let m = c.if-way-len-2.false in let n = c.len-2.ensures in omega arith) in
    let place : IsPlace (spots_of c.args.slots.now c.args.order.now) (c.in-Some.way.node.0, get_or (key_of c.args.name.now) c.in-Some.way.count []) (Err c.in-Some.way.next) =
    c.in-Some.ensures.next.place (omega (arith, length-map c.args.name.now key_of_rdn)) in
    site c.args.prefix.now c.args.slots.now c.args.order.now c.requires (key_of c.args.name.now) c.in-Some.way.node c.in-Some.way.count down c.args.name.now c.in-Some.way.next refl all place
