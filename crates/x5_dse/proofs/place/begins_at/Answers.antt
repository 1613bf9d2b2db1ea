-- What stands at the place tells it of all from there on.
use Rattle.std.proofs.Common.{◌≡◌, ◌<◌, ◌≤◌, [], length, get_or, ap, subst, ◌∙◌}
use Rattle.std.proofs.lemmas.Bool.{leb-true}
use Rattle.x5_dse.specs.Slot.{Slot}
use Rattle.x5_dse.specs.Inside.{top, parent_at}
use Rattle.x5_dse.proofs.Spots.{in_get}
use Rattle.x5_dse.proofs.Named.{order_used}
use Rattle.x5_dse.proofs.Runs.{all_from, not_last}
use Rattle.x5_dse.proofs.place.begins_at.Goals as goal

pub held_at-requires : goal.held_at-requires
held_at-requires c =
    let within = not_last c.args.at (length c.args.order.now) c.requires.within c.if-at-order.false in
    order_used [] c.args.slots.now c.args.order.now c.requires.row (get_or c.args.order.now c.args.at top) (in_get c.args.order.now c.args.at top within)

pub returns-else-at-order : goal.returns-else-at-order
returns-else-at-order c t =
    let within = not_last c.args.at (length c.args.order.now) c.requires.within c.if-at-order.false in
    let up : c.behind-slots.inside.parent ≡ parent_at c.args.slots.now (get_or c.args.order.now c.args.at top) = ap (λ (s : Slot). s.parent) (c.behind-slots.view_is ∙ c.held_at.ensures) in
    all_from c.args.slots.now c.args.order.now c.requires.row.in_order c.args.node c.args.at within
    (subst (λ (n : _). c.args.node.0 ≤ n.0) up (leb-true c.args.node.0 c.behind-slots.inside.parent.0 t))
