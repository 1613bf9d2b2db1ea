-- Whether one of the items is the same is whether the trace has the item, compared by names, and by places too where
-- the item's agent is one of the world: by the lemmas on items of a trace.
use Rattle.std.proofs.Common.{◌∙◌}
use Rattle.x5_trace.specs.Items.{same_named}
use Rattle.x5_trace.proofs.Items.{any_has, repeats_placed}
use Rattle.x5_trace.proofs.trace.repeats.Goals as goal

pub returns-clause-named : goal.returns-clause-named
returns-clause-named c = c.is_among.ensures.any ∙ any_has same_named c.args.trace.now c.args.item.now

pub returns-clause-placed : goal.returns-clause-placed
returns-clause-placed c = λ names named. c.is_among.ensures.any ∙ repeats_placed names c.args.trace.now c.args.item.now named
