-- Where the node above has another below it behind this one, that is next; else the walk goes on behind the node above.
use Rattle.std.proofs.Common.{◌≡◌, ◌+◌, ◌<◌, true, [], length, get_or, sym, ap, subst, ◌∙◌, arith}
use Rattle.x5_model.specs.Values.{Name}
use Rattle.x5_dse.specs.declared.node.NodeId.{NodeId}
use Rattle.x5_dse.specs.Slot.{Slot}
use Rattle.x5_dse.specs.Inside.{top, is_used, parent_at, depth_at}
use Rattle.x5_dse.specs.Step.{IsBehind, IsUnder}
use Rattle.x5_dse.proofs.Ids.{same_id}
use Rattle.x5_dse.proofs.Walking.{leaf_behind, none_left, at_ordered, up_used, up_under, up_over, sibling_is_next, up_behind, under_itself}
use Rattle.x5_dse.proofs.place.past.Goals as goal

pub loop-at-init : goal.loop-at-init
loop-at-init c = record {
  used = c.requires.used;
  under = c.requires.under;
  over = λ p. under_itself p c.args.slots.now c.args.node;
  behind = λ p. leaf_behind p c.args.slots.now c.args.order.now c.requires.row c.args.node c.requires.used c.requires.leaf;
}

pub place_near-place-requires-clause-ordered : goal.place_near-place-requires-clause-ordered
place_near-place-requires-clause-ordered c =
    let other : c.loop-at.at ≡ c.args.from → ⊥ = λ e. c.loop-at-test.true (ap (λ (k : NodeId). k.0) e) in
    at_ordered [] c.args.slots.now c.args.order.now c.requires.row c.args.from c.args.node c.loop-at.at c.loop-at.invariant.used c.requires.from_used (c.loop-at.invariant.under []) (c.loop-at.invariant.over []) (c.loop-at.invariant.behind []) other

pub returns-then-is_below_at : goal.returns-then-is_below_at
returns-then-is_below_at c =
    let other : c.loop-at.at ≡ c.args.from → ⊥ = λ e. c.loop-at-test.true (ap (λ (k : NodeId). k.0) e) in
    let up : c.behind-slots.inside.parent ≡ parent_at c.args.slots.now c.loop-at.at = ap (λ (t : Slot). t.parent) (c.behind-slots.view_is ∙ c.held_at.ensures) in
    let found : (c.place_near-place.result + 1 < length c.args.order.now) × (parent_at c.args.slots.now (get_or c.args.order.now (c.place_near-place.result + 1) top) ≡ c.behind-slots.inside.parent) = c.is_below_at.ensures.0 c.if-is_below_at.true in
    λ p. sibling_is_next p c.args.slots.now c.args.order.now c.requires.row c.args.from c.args.node c.loop-at.at c.loop-at.invariant.used c.requires.from_used (c.loop-at.invariant.under p) (c.loop-at.invariant.over p) (c.loop-at.invariant.behind p) other c.place_near-place.result c.place_near-place.ensures.0 (c.place_near-place.ensures.1 top) found.0 (found.1 ∙ up)

pub loop-at-preserved : goal.loop-at-preserved
loop-at-preserved c =
    let other : c.loop-at.at ≡ c.args.from → ⊥ = λ e. c.loop-at-test.true (ap (λ (k : NodeId). k.0) e) in
    let up : c.behind-slots.inside.parent ≡ parent_at c.args.slots.now c.loop-at.at = ap (λ (t : Slot). t.parent) (c.behind-slots.view_is ∙ c.held_at.ensures) in
    let none : (c.place_near-place.result + 1 < length c.args.order.now) × (parent_at c.args.slots.now (get_or c.args.order.now (c.place_near-place.result + 1) top) ≡ parent_at c.args.slots.now c.loop-at.at) → ⊥ =
    λ w. let t = c.is_below_at.ensures.1 (w.0, w.1 ∙ sym up) in let f = c.if-is_below_at.false in cc in
    record {
      used = subst (λ (k : NodeId). is_used c.args.slots.now k ≡ true) (sym up) (up_used [] c.args.slots.now c.args.order.now c.requires.row c.args.from c.args.node c.loop-at.at c.loop-at.invariant.used c.requires.from_used (c.loop-at.invariant.under []) (c.loop-at.invariant.over []) (c.loop-at.invariant.behind []) other);
      under = subst (λ (k : NodeId). IsUnder c.args.slots.now c.args.from k) (sym up) (λ p. up_under p c.args.slots.now c.args.order.now c.requires.row c.args.from c.args.node c.loop-at.at c.loop-at.invariant.used c.requires.from_used (c.loop-at.invariant.under p) (c.loop-at.invariant.over p) (c.loop-at.invariant.behind p) other);
      over = subst (λ (k : NodeId). IsUnder c.args.slots.now k c.args.node) (sym up) (λ p. up_over p c.args.slots.now c.args.order.now c.requires.row c.args.from c.args.node c.loop-at.at c.loop-at.invariant.used c.requires.from_used (c.loop-at.invariant.under p) (c.loop-at.invariant.over p) (c.loop-at.invariant.behind p) other);
      behind = subst (λ (k : NodeId). (p : Name) → IsBehind p c.args.slots.now c.args.node k) (sym up) (λ p. up_behind p c.args.slots.now c.args.order.now c.requires.row c.args.from c.args.node c.loop-at.at c.loop-at.invariant.used c.requires.from_used (c.loop-at.invariant.under p) (c.loop-at.invariant.over p) (c.loop-at.invariant.behind p) other c.place_near-place.result c.place_near-place.ensures.0 (c.place_near-place.ensures.1 top) none);
    }

pub loop-at-smaller : goal.loop-at-smaller
loop-at-smaller c =
    let other : c.loop-at.at ≡ c.args.from → ⊥ = λ e. c.loop-at-test.true (ap (λ (k : NodeId). k.0) e) in
    let up : c.behind-slots.inside.parent ≡ parent_at c.args.slots.now c.loop-at.at = ap (λ (t : Slot). t.parent) (c.behind-slots.view_is ∙ c.held_at.ensures) in
    let deep = (c.requires.row.above c.loop-at.at (at_ordered [] c.args.slots.now c.args.order.now c.requires.row c.args.from c.args.node c.loop-at.at c.loop-at.invariant.used c.requires.from_used (c.loop-at.invariant.under []) (c.loop-at.invariant.over []) (c.loop-at.invariant.behind []) other)).1 in
    let same : depth_at c.args.slots.now c.behind-slots.inside.parent ≡ depth_at c.args.slots.now (parent_at c.args.slots.now c.loop-at.at) = ap (depth_at c.args.slots.now) up in
    omega arith

pub returns : goal.returns
returns c = λ p. none_left p c.args.slots.now c.args.order.now c.requires.row c.args.from c.args.node c.loop-at.at c.loop-at.invariant.used c.requires.from_used (c.loop-at.invariant.under p) (c.loop-at.invariant.over p) (c.loop-at.invariant.behind p) (same_id c.loop-at.at c.args.from c.loop-at-test.false)
