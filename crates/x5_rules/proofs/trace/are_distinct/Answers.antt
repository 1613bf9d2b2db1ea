-- The names at and behind a place are those of the items there.
use Rattle.std.proofs.Common.{◌+◌}
use Rattle.x5_rules.proofs.Targets.{target_at, targets_behind}
use Rattle.x5_rules.proofs.trace.are_distinct.Goals as goal

pub is_among-requires-clause-targets : goal.is_among-requires-clause-targets
is_among-requires-clause-targets c = targets_behind c.args.items.now c.args.targets.now (c.loop-i.i + 1) c.requires

pub is_among-requires-clause-target : goal.is_among-requires-clause-target
is_among-requires-clause-target c =
    target_at c.args.items.now c.args.targets.now c.loop-i.i c.index-items-i.result c.index-targets-i.result c.requires
    c.loop-i-test.true c.index-items-i.is c.index-targets-i.is
