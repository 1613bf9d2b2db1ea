-- The name at a place is that of the item there.
use Rattle.x5_rules.proofs.Targets.{target_at}
use Rattle.x5_rules.proofs.trace.is_among.Goals as goal

pub is_same_item-requires-clause-target : goal.is_same_item-requires-clause-target
is_same_item-requires-clause-target c =
    target_at c.args.items.now c.args.targets.now c.loop-i.i c.index-items-i.result c.index-targets-i.result
    c.requires.targets c.loop-i-test.true c.index-items-i.is c.index-targets-i.is
