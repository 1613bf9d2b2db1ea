-- Without the node the place is the one that was found, or the one before it.
use Rattle.std.proofs.Common.{◌≡◌, ℕ, ◌<◌, length, map, get_or, sym, ap, subst, ◌∙◌, arith, Ok, Err}
use Rattle.x5_model.specs.Values.{key_of_pair}
use Rattle.x5_dse.specs.declared.node.NodeId.{NodeId}
use Rattle.x5_dse.specs.Slot.{Slot}
use Rattle.x5_dse.specs.Inside.{top, parent_at, spots_of, IsPlace}
use Rattle.x5_dse.proofs.Spots.{child_found, spots_length}
use Rattle.x5_dse.proofs.InOrder.{map_remove}
use Rattle.x5_dse.proofs.Moving.{stays_put, goes_up, goes_down, one_place}
use Rattle.x5_dse.proofs.place.move_of.Goals as goal

pub returns-then-at-from : goal.returns-then-at-from
returns-then-at-from c =
    let above : c.behind-slots.inside.parent ≡ parent_at c.args.slots.now c.args.node = ap (λ (t : Slot). t.parent) (c.behind-slots.view_is ∙ c.held_at.ensures) in
    let place : IsPlace (spots_of c.args.slots.now c.args.order.now) ((parent_at c.args.slots.now c.args.node).0, map key_of_pair c.args.pairs.now) (Ok c.in-Ok.at) =
    subst (λ (p : NodeId). IsPlace (spots_of c.args.slots.now c.args.order.now) (p.0, map key_of_pair c.args.pairs.now) (Ok c.in-Ok.at)) above c.in-Ok.ensures in
    let within : c.place_of_node-from.result < length (spots_of c.args.slots.now c.args.order.now) = (let l = c.place_of_node-from.ensures.0 in omega (arith, spots_length c.args.slots.now c.args.order.now)) in
    record {
      within = c.place_of_node-from.ensures.0;
      is_at = c.place_of_node-from.ensures.1;
      goes = rw map_remove (stays_put (spots_of c.args.slots.now c.args.order.now) c.place_of_node-from.result within ((parent_at c.args.slots.now c.args.node).0, map key_of_pair c.args.pairs.now) c.requires.row.in_order
          (λ d. ap (λ (n : ℕ). get_or (spots_of c.args.slots.now c.args.order.now) n d) (sym c.if-at-from.true) ∙ place.1 d));
    }

pub returns-else-at-from : goal.returns-else-at-from
returns-else-at-from c =
    let above : c.behind-slots.inside.parent ≡ parent_at c.args.slots.now c.args.node = ap (λ (t : Slot). t.parent) (c.behind-slots.view_is ∙ c.held_at.ensures) in
    let place : IsPlace (spots_of c.args.slots.now c.args.order.now) ((parent_at c.args.slots.now c.args.node).0, map key_of_pair c.args.pairs.now) (Ok c.in-Ok.at) =
    subst (λ (p : NodeId). IsPlace (spots_of c.args.slots.now c.args.order.now) (p.0, map key_of_pair c.args.pairs.now) (Ok c.in-Ok.at)) above c.in-Ok.ensures in
    let found = child_found c.args.slots.now c.args.order.now ((parent_at c.args.slots.now c.args.node).0, map key_of_pair c.args.pairs.now) c.in-Ok.at top place in
    record {
      other = get_or c.args.order.now c.in-Ok.at top;
      there = found.0;
      differs = λ e. one_place c.args.slots.now c.args.order.now c.requires.row.in_order c.in-Ok.at c.place_of_node-from.result (let l = place.0 in omega (arith, spots_length c.args.slots.now c.args.order.now)) c.place_of_node-from.ensures.0
          (e ∙ sym (c.place_of_node-from.ensures.1 top)) c.if-at-from.false;
      spot = found.1;
    }

pub returns-then-from-at : goal.returns-then-from-at
returns-then-from-at c =
    let above : c.behind-slots.inside.parent ≡ parent_at c.args.slots.now c.args.node = ap (λ (t : Slot). t.parent) (c.behind-slots.view_is ∙ c.held_at.ensures) in
    let place : IsPlace (spots_of c.args.slots.now c.args.order.now) ((parent_at c.args.slots.now c.args.node).0, map key_of_pair c.args.pairs.now) (Err c.in-Err.at) =
    subst (λ (p : NodeId). IsPlace (spots_of c.args.slots.now c.args.order.now) (p.0, map key_of_pair c.args.pairs.now) (Err c.in-Err.at)) above c.in-Err.ensures in
    let within : c.place_of_node-from.result < length (spots_of c.args.slots.now c.args.order.now) = (let l = c.place_of_node-from.ensures.0 in omega (arith, spots_length c.args.slots.now c.args.order.now)) in
    record {
      within = c.place_of_node-from.ensures.0;
      is_at = c.place_of_node-from.ensures.1;
      goes = rw map_remove (goes_up (spots_of c.args.slots.now c.args.order.now) c.place_of_node-from.result within ((parent_at c.args.slots.now c.args.node).0, map key_of_pair c.args.pairs.now) c.in-Err.at place c.if-from-at.true);
    }

pub returns-else-from-at : goal.returns-else-from-at
returns-else-from-at c =
    let above : c.behind-slots.inside.parent ≡ parent_at c.args.slots.now c.args.node = ap (λ (t : Slot). t.parent) (c.behind-slots.view_is ∙ c.held_at.ensures) in
    let place : IsPlace (spots_of c.args.slots.now c.args.order.now) ((parent_at c.args.slots.now c.args.node).0, map key_of_pair c.args.pairs.now) (Err c.in-Err.at) =
    subst (λ (p : NodeId). IsPlace (spots_of c.args.slots.now c.args.order.now) (p.0, map key_of_pair c.args.pairs.now) (Err c.in-Err.at)) above c.in-Err.ensures in
    let within : c.place_of_node-from.result < length (spots_of c.args.slots.now c.args.order.now) = (let l = c.place_of_node-from.ensures.0 in omega (arith, spots_length c.args.slots.now c.args.order.now)) in
    record {
      within = c.place_of_node-from.ensures.0;
      is_at = c.place_of_node-from.ensures.1;
      goes = rw map_remove (goes_down (spots_of c.args.slots.now c.args.order.now) c.place_of_node-from.result within ((parent_at c.args.slots.now c.args.node).0, map key_of_pair c.args.pairs.now) c.in-Err.at place c.if-from-at.false);
    }
