-- What stands in order is used.
use Rattle.std.proofs.Common.{[], get_or}
use Rattle.x5_dse.specs.Inside.{top}
use Rattle.x5_dse.proofs.Spots.{in_get}
use Rattle.x5_dse.proofs.Named.{order_used}
use Rattle.x5_dse.proofs.place.is_below_at.Goals as goal

pub held_at-requires : goal.held_at-requires
held_at-requires c = order_used [] c.args.slots.now c.args.order.now c.requires (get_or c.args.order.now c.args.at top) (in_get c.args.order.now c.args.at top c.if-at-order.true)
