-- One used slot is a tree, with room for one number in both lists.
use Rattle.std.proofs.Common.{arith, refl}
use Rattle.x5_model.specs.Values.{last_rdn}
use Rattle.x5_dse.proofs.Growing.{one_kept}
use Rattle.x5_dse.proofs.tree.DseTree.new.Goals as goal

pub invariant_of-result : goal.invariant_of-result
invariant_of-result c = (
  rw (c.in_ok-push.ensures.items, c.in_ok-slots.ensures.items, c.in_ok-order.ensures.items, c.in_ok-free.ensures.items) (one_kept (record { parent = record { 0 = 0 }; depth = 0; rdn = last_rdn c.root.result; entry = c.args.entry }) refl),
  record {
    all = omega (arith, c.in_ok-push.ensures.len, c.in_ok-slots.ensures.len, c.in_ok-order.ensures.len, c.in_ok-free.ensures.len);
    for_order = omega (arith, c.in_ok-push.ensures.len, c.in_ok-slots.ensures.len, c.in_ok-order.ensures.exact);
    for_free = omega (arith, c.in_ok-push.ensures.len, c.in_ok-slots.ensures.len, c.in_ok-free.ensures.exact);
  },
)
