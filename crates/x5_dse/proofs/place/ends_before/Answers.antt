-- What stands last before the place tells it of all.
use Rattle.std.proofs.Common.{◌≡◌, ◌<◌, ◌≤◌, ◌-◌, [], length, get_or, ap, subst, ◌∙◌, arith}
use Rattle.std.proofs.Math.Nat.{pos_of_ne-zero}
use Rattle.std.proofs.lemmas.Bool.{ltb-true}
use Rattle.x5_dse.specs.Slot.{Slot}
use Rattle.x5_dse.specs.Inside.{top, parent_at}
use Rattle.x5_dse.proofs.Spots.{in_get}
use Rattle.x5_dse.proofs.Named.{order_used}
use Rattle.x5_dse.proofs.Runs.{all_before}
use Rattle.x5_dse.proofs.place.ends_before.Goals as goal

pub held_at-requires : goal.held_at-requires
held_at-requires c =
    let some : 0 < c.args.at = pos_of_ne-zero c.if-at-eq0.false in
    let within = c.requires.within in
    order_used [] c.args.slots.now c.args.order.now c.requires.row (get_or c.args.order.now (c.args.at - 1) top) (in_get c.args.order.now (c.args.at - 1) top (omega arith))

pub returns-else-at-eq0 : goal.returns-else-at-eq0
returns-else-at-eq0 c t =
    let some : 0 < c.args.at = pos_of_ne-zero c.if-at-eq0.false in
    let up : c.behind-slots.inside.parent ≡ parent_at c.args.slots.now (get_or c.args.order.now (c.args.at - 1) top) = ap (λ (s : Slot). s.parent) (c.behind-slots.view_is ∙ c.held_at.ensures) in
    all_before c.args.slots.now c.args.order.now c.requires.row.in_order c.args.node c.args.at some c.requires.within
    (subst (λ (n : _). n.0 < c.args.node.0) up (ltb-true c.behind-slots.inside.parent.0 c.args.node.0 t))
