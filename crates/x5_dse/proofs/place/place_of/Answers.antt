-- Each step keeps that all spots before `low` are below the one sought and all from `high` on above it.
use Rattle.std.proofs.Common.{◌<◌, [], length, map, slice_index_or, sym, ap, ◌∙◌, arith}
use Rattle.x5_model.specs.Values.{key_of_pair}
use Rattle.x5_dse.specs.Inside.{Spot, top, spot_at, spots_of, spot_cmp}
use Rattle.x5_dse.proofs.Spots.{in_get, spot_get, spots_length, equal_spots, go_up, go_down}
use Rattle.x5_dse.proofs.Named.{order_used}
use Rattle.x5_dse.proofs.place.place_of.Goals as goal

pub compare_at-requires : goal.compare_at-requires
compare_at-requires c =
    let l : c.next_try-middle.result < length c.args.order.now = omega arith in
    order_used [] c.args.slots.now c.args.order.now c.requires (slice_index_or c.args.order.now c.next_try-middle.result top) (in_get c.args.order.now c.next_try-middle.result top l)

pub loop-low-preserved-in-Less : goal.loop-low-preserved-in-Less
loop-low-preserved-in-Less c =
    let l : c.next_try-middle.result < length c.args.order.now = omega arith in
    let m : c.next_try-middle.result < length (spots_of c.args.slots.now c.args.order.now) = omega (arith, spots_length c.args.slots.now c.args.order.now) in
    record {
      ordered = omega arith;
      within = c.loop-low.invariant.within;
      below = go_up (spots_of c.args.slots.now c.args.order.now) (c.args.above.0, map key_of_pair c.args.pairs.now) c.next_try-middle.result c.requires.in_order m
          (λ d. ap (λ (s : Spot). spot_cmp s (c.args.above.0, map key_of_pair c.args.pairs.now)) (spot_get c.args.slots.now c.args.order.now c.next_try-middle.result top d l) ∙ sym c.compare_at.ensures ∙ c.in-Less.is);
      above = c.loop-low.invariant.above;
    }

pub loop-low-preserved : goal.loop-low-preserved
loop-low-preserved c =
    let l : c.next_try-middle.result < length c.args.order.now = omega arith in
    record {
      ordered = omega arith;
      within = omega arith;
      below = c.loop-low.invariant.below;
      above = go_down (spots_of c.args.slots.now c.args.order.now) (c.args.above.0, map key_of_pair c.args.pairs.now) c.next_try-middle.result c.requires.in_order
          (λ d. ap (λ (s : Spot). spot_cmp s (c.args.above.0, map key_of_pair c.args.pairs.now)) (spot_get c.args.slots.now c.args.order.now c.next_try-middle.result top d l) ∙ sym c.compare_at.ensures ∙ c.in-Greater.is);
    }

pub returns-in-Equal : goal.returns-in-Equal
returns-in-Equal c =
    let l : c.next_try-middle.result < length c.args.order.now = omega arith in (
      omega (arith, spots_length c.args.slots.now c.args.order.now),
      λ d. spot_get c.args.slots.now c.args.order.now c.next_try-middle.result top d l ∙ equal_spots (spot_at c.args.slots.now (slice_index_or c.args.order.now c.next_try-middle.result top)) (c.args.above.0, map key_of_pair c.args.pairs.now) (sym c.compare_at.ensures ∙ c.in-Equal.is),
    )
