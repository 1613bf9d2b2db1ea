-- Below the prefix the way goes down by what is left of the name.
use Rattle.std.proofs.Common.{◌≡◌, ℕ, ◌+◌, ◌-◌, [], true, length, take, drop, sym, ap, subst, ◌∙◌}
use Rattle.std.proofs.lemmas.List.{take_rest, drop-map}
use Rattle.x5_model.specs.Keys.{Key, is_prefix}
use Rattle.x5_model.specs.Values.{Name, key_of, key_of_rdn}
use Rattle.x5_dse.specs.Inside.{GoesNext, IsDown}
use Rattle.x5_dse.proofs.Ways.{from_prefix, next_from_prefix}
use Rattle.x5_dse.proofs.place.way_to.Goals as goal

pub returns-clause-down : goal.returns-clause-down
returns-clause-down c =
    let below : true ≡ is_prefix (key_of c.args.prefix.now) (key_of c.args.name.now) = c.if-not-is_prefix.ensures in
    let rest : key_of (take (length c.rdns.result.now - c.len-above.result) (drop c.len-above.result c.rdns.result.now)) ≡ drop (length c.args.prefix.now) (key_of c.args.name.now) =
    ap key_of (take_rest c.rdns.result.now c.len-above.result) ∙ sym (drop-map key_of_rdn c.len-above.result c.rdns.result.now)
    ∙ ap (λ (n : ℕ). drop n (key_of c.rdns.result.now)) c.len-above.ensures ∙ ap (λ (n : Name). drop (length c.args.prefix.now) (key_of n)) c.rdns.ensures in
    let down : IsDown [] c.args.slots.now c.args.order.now (drop (length c.args.prefix.now) (key_of c.args.name.now)) c.descend-count.result.node c.descend-count.result.count =
    subst (λ (k : Key). IsDown [] c.args.slots.now c.args.order.now k c.descend-count.result.node c.descend-count.result.count) rest c.descend-count.ensures.down in
    subst (λ (m : ℕ). IsDown c.args.prefix.now c.args.slots.now c.args.order.now (key_of c.args.name.now) c.descend-count.result.node (m + c.descend-count.result.count)) (sym c.len-above.ensures)
    (from_prefix c.args.prefix.now c.args.slots.now c.args.order.now (key_of c.args.name.now) c.descend-count.result.node c.descend-count.result.count (sym below) down)

pub returns-clause-next : goal.returns-clause-next
returns-clause-next c =
    let rest : key_of (take (length c.rdns.result.now - c.len-above.result) (drop c.len-above.result c.rdns.result.now)) ≡ drop (length c.args.prefix.now) (key_of c.args.name.now) =
    ap key_of (take_rest c.rdns.result.now c.len-above.result) ∙ sym (drop-map key_of_rdn c.len-above.result c.rdns.result.now)
    ∙ ap (λ (n : ℕ). drop n (key_of c.rdns.result.now)) c.len-above.ensures ∙ ap (λ (n : Name). drop (length c.args.prefix.now) (key_of n)) c.rdns.ensures in
    let next : GoesNext c.args.slots.now c.args.order.now (drop (length c.args.prefix.now) (key_of c.args.name.now)) c.descend-count.result.node c.descend-count.result.count c.descend-count.result.next =
    subst (λ (k : Key). GoesNext c.args.slots.now c.args.order.now k c.descend-count.result.node c.descend-count.result.count c.descend-count.result.next) rest c.descend-count.ensures.next in
    subst (λ (m : ℕ). GoesNext c.args.slots.now c.args.order.now (key_of c.args.name.now) c.descend-count.result.node (m + c.descend-count.result.count) c.descend-count.result.next) (sym c.len-above.ensures)
    (next_from_prefix c.args.prefix.now c.args.slots.now c.args.order.now (key_of c.args.name.now) c.descend-count.result.node c.descend-count.result.count c.descend-count.result.next next)
