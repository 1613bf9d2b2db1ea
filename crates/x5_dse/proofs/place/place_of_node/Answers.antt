-- A node stands at its spot, and no other does.
use Rattle.std.proofs.Common.{◌≡◌, ◌<◌, [], length, map, get_or, sym, ap, ◌∙◌, arith, Ok}
use Rattle.std.proofs.lemmas.List.{get_or_default}
use Rattle.x5_model.specs.Values.{Rdn, key_of_pair, key_of_rdn}
use Rattle.x5_dse.specs.Slot.{Slot}
use Rattle.x5_dse.specs.Inside.{top, spot_at, spots_of, IsPlace}
use Rattle.x5_dse.proofs.Spots.{child_found, child_missing, spots_length}
use Rattle.x5_dse.proofs.Named.{order_used, same_spot}
use Rattle.x5_dse.proofs.place.place_of_node.Goals as goal

pub held_at-dse-requires : goal.held_at-dse-requires
held_at-dse-requires c = order_used [] c.args.slots.now c.args.order.now c.requires.row c.args.node c.requires.ordered

pub unreachable-requires : goal.unreachable-requires
unreachable-requires c =
    let is : spot_at c.args.slots.now c.args.node ≡ (c.dse.inside.parent.0, map key_of_pair c.pairs.result.now) =
    ap (λ (s : Slot). (s.parent.0, key_of_rdn s.rdn)) (sym c.held_at-dse.ensures) ∙ ap (λ (s : Slot). (s.parent.0, key_of_rdn c.held_at-dse.result.now.rdn)) (sym c.dse.view_is) ∙ ap (λ (r : Rdn). (c.dse.inside.parent.0, key_of_rdn r)) (sym c.pairs.ensures) in
    child_missing c.args.slots.now c.args.order.now (c.dse.inside.parent.0, map key_of_pair c.pairs.result.now) c.in-Err.field-0 c.in-Err.ensures c.args.node c.requires.ordered is

pub returns : goal.returns
returns c =
    let is : spot_at c.args.slots.now c.args.node ≡ (c.dse.inside.parent.0, map key_of_pair c.pairs.result.now) =
    ap (λ (s : Slot). (s.parent.0, key_of_rdn s.rdn)) (sym c.held_at-dse.ensures) ∙ ap (λ (s : Slot). (s.parent.0, key_of_rdn c.held_at-dse.result.now.rdn)) (sym c.dse.view_is) ∙ ap (λ (r : Rdn). (c.dse.inside.parent.0, key_of_rdn r)) (sym c.pairs.ensures) in
    let place : IsPlace (spots_of c.args.slots.now c.args.order.now) (c.dse.inside.parent.0, map key_of_pair c.pairs.result.now) (Ok c.in-Ok.at) = c.in-Ok.ensures in
    let child = child_found c.args.slots.now c.args.order.now (c.dse.inside.parent.0, map key_of_pair c.pairs.result.now) c.in-Ok.at top place in
    let within : c.in-Ok.at < length c.args.order.now = (let l = place.0 in omega (arith, spots_length c.args.slots.now c.args.order.now)) in
    let same = same_spot [] c.args.slots.now c.args.order.now c.requires.row (get_or c.args.order.now c.in-Ok.at top) c.args.node child.0 c.requires.ordered (child.1 ∙ sym is) in
    (within, λ d. get_or_default c.args.order.now c.in-Ok.at d top within ∙ same)
