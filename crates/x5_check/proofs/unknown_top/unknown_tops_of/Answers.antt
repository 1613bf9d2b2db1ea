-- What is told first of the first member of which something is told.
use Rattle.std.proofs.Common.{sym, ◌∙◌}
use Rattle.x5_model_tree.specs.Consistent.{unknown_top}
use Rattle.x5_check.specs.Views.{breach_view}
use Rattle.x5_check.proofs.Steps.{stop}
use Rattle.x5_check.proofs.unknown_top.unknown_tops_of.Goals as goal

pub returns-then-is_some : goal.returns-then-is_some
returns-then-is_some c =
    stop breach_view (unknown_top c.args.known.now c.args.agent.now.0 c.args.agent.now.1) c.held-held.result.now c.loop-context.context-index _ c.loop-context.invariant c.in_ok-told.told c.context-item.result c.loop-context-test.true c.context-item.is c.in_ok-told.ensures (sym c.is_some.ensures ∙ c.if-is_some.true)
