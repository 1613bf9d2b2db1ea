-- Each step goes one RDN down.
use Rattle.std.proofs.Common.{◌≡◌, ℕ, ◌<◌, [], length, map, take, get_or, sym, ap, subst, ◌∙◌, arith, Ok, Err}
use Rattle.x5_model.specs.Keys.{KeyRdn}
use Rattle.std.proofs.lemmas.List.{get_or-map, length-map}
use Rattle.x5_model.specs.Values.{key_of_pair, key_of_rdn, key_of}
use Rattle.x5_dse.specs.Inside.{top, path_of, spots_of, IsPlace}
use Rattle.x5_dse.proofs.Spots.{child_found, child_missing}
use Rattle.x5_dse.proofs.Named.{top_used}
use Rattle.x5_dse.proofs.Ways.{start, step_down, stops, arrives}
use Rattle.x5_dse.proofs.place.descend.Goals as goal

pub loop-count-init : goal.loop-count-init
loop-count-init c = record {
  used = top_used [] c.args.slots.now c.args.order.now c.requires;
  on_way = start c.args.slots.now c.args.order.now c.requires (key_of c.args.rdns.now);
}

pub loop-count-preserved : goal.loop-count-preserved
loop-count-preserved c =
    let place : IsPlace (spots_of c.args.slots.now c.args.order.now) (c.loop-count.node.0, map key_of_pair c.pairs.result.now) (Ok c.in-Ok.at) = c.in-Ok.ensures in
    let found = child_found c.args.slots.now c.args.order.now (c.loop-count.node.0, map key_of_pair c.pairs.result.now) c.in-Ok.at top place in
    let l : c.loop-count.count < length (key_of c.args.rdns.now) = omega (arith, length-map c.args.rdns.now key_of_rdn) in
    let own : get_or (key_of c.args.rdns.now) c.loop-count.count [] ≡ map key_of_pair c.pairs.result.now =
    get_or-map key_of_rdn c.args.rdns.now c.loop-count.count c.index-rdns-count.result [] c.loop-count-test.true ∙ ap key_of_rdn (sym c.index-rdns-count.is ∙ sym c.pairs.ensures) in
    let w = step_down c.args.slots.now c.args.order.now c.requires (key_of c.args.rdns.now) c.loop-count.node (get_or c.args.order.now c.in-Ok.at top) c.loop-count.count (map key_of_pair c.pairs.result.now) found.0 found.1 c.loop-count.invariant.on_way l own in
    record { used = w.0; on_way = w.1 }

pub returns-in-Err-clause-down : goal.returns-in-Err-clause-down
returns-in-Err-clause-down c =
    let l : c.loop-count.count < length (key_of c.args.rdns.now) = omega (arith, length-map c.args.rdns.now key_of_rdn) in
    let own : get_or (key_of c.args.rdns.now) c.loop-count.count [] ≡ map key_of_pair c.pairs.result.now =
    get_or-map key_of_rdn c.args.rdns.now c.loop-count.count c.index-rdns-count.result [] c.loop-count-test.true ∙ ap key_of_rdn (sym c.index-rdns-count.is ∙ sym c.pairs.ensures) in
    let place : IsPlace (spots_of c.args.slots.now c.args.order.now) (c.loop-count.node.0, map key_of_pair c.pairs.result.now) (Err c.in-Err.next) = c.in-Err.ensures in
    stops c.args.slots.now c.args.order.now c.requires (key_of c.args.rdns.now) c.loop-count.node c.loop-count.count (map key_of_pair c.pairs.result.now) c.loop-count.invariant.used c.loop-count.invariant.on_way l own
    (child_missing c.args.slots.now c.args.order.now (c.loop-count.node.0, map key_of_pair c.pairs.result.now) c.in-Err.next place)

pub returns-in-Err-clause-next : goal.returns-in-Err-clause-next
returns-in-Err-clause-next c =
    let own : get_or (key_of c.args.rdns.now) c.loop-count.count [] ≡ map key_of_pair c.pairs.result.now =
    get_or-map key_of_rdn c.args.rdns.now c.loop-count.count c.index-rdns-count.result [] c.loop-count-test.true ∙ ap key_of_rdn (sym c.index-rdns-count.is ∙ sym c.pairs.ensures) in
    let place : IsPlace (spots_of c.args.slots.now c.args.order.now) (c.loop-count.node.0, map key_of_pair c.pairs.result.now) (Err c.in-Err.next) = c.in-Err.ensures in
    record {
      place = λ l. subst (λ (r : KeyRdn). IsPlace (spots_of c.args.slots.now c.args.order.now) (c.loop-count.node.0, r) (Err c.in-Err.next)) (sym own) place;
    }

pub returns-clause-down : goal.returns-clause-down
returns-clause-down c =
    let e : c.loop-count.count ≡ length c.args.rdns.now = (let m = c.loop-count-test.false in omega arith) in
    let way : key_of (path_of c.args.slots.now c.loop-count.node) ≡ take (length c.args.rdns.now) (key_of c.args.rdns.now) = c.loop-count.invariant.on_way ∙ ap (λ (n : ℕ). take n (key_of c.args.rdns.now)) e in
    arrives c.args.slots.now c.args.order.now c.requires (key_of c.args.rdns.now) c.loop-count.node (length c.args.rdns.now) c.loop-count.invariant.used way (sym (length-map c.args.rdns.now key_of_rdn))

pub returns-clause-next : goal.returns-clause-next
returns-clause-next c = record { place = λ l. absurd (omega (arith, length-map c.args.rdns.now key_of_rdn)) }
