-- The first of what stands below the node, if there is something.
use Rattle.std.proofs.Common.{◌≡◌, ◌<◌, length, get_or}
use Rattle.x5_dse.specs.Inside.{top, parent_at}
use Rattle.x5_dse.proofs.Runs.{first_of_run}
use Rattle.x5_dse.proofs.Walking.{first_below_is_next}
use Rattle.x5_dse.proofs.place.after.Goals as goal

pub returns-then-is_below_at : goal.returns-then-is_below_at
returns-then-is_below_at c =
    let found : (c.run_near-run.result < length c.args.order.now) × (parent_at c.args.slots.now (get_or c.args.order.now c.run_near-run.result top) ≡ c.args.node) = c.is_below_at.ensures.0 c.if-is_below_at.true in
    λ p. first_below_is_next p c.args.slots.now c.args.order.now c.requires.row c.args.from c.args.node c.requires.used (c.requires.under p) c.run_near-run.result c.run_near-run.ensures found.0 found.1

pub past-requires-clause-leaf : goal.past-requires-clause-leaf
past-requires-clause-leaf c = λ k i e. let t = c.is_below_at.ensures.1 (first_of_run c.args.slots.now c.args.order.now c.requires.row.in_order c.args.node c.run_near-run.result c.run_near-run.ensures k i e) in let f = c.if-is_below_at.false in cc
