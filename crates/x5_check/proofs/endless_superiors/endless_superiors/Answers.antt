-- What is told first of the first member of which something is told.
use Rattle.std.proofs.Common.{sym, ◌∙◌}
use Rattle.x5_check.specs.Parts.{endless_part}
use Rattle.x5_check.specs.Views.{breach_view}
use Rattle.x5_check.proofs.Steps.{stop}
use Rattle.x5_check.proofs.endless_superiors.endless_superiors.Goals as goal

pub returns-then-is_some : goal.returns-then-is_some
returns-then-is_some c =
    stop breach_view (endless_part c.args.known.now) c.agents-agents.result.now c.loop-agent.agent-index _ c.loop-agent.invariant c.in_ok-told.told c.agent-item.result c.loop-agent-test.true c.agent-item.is c.in_ok-told.ensures (sym c.is_some.ensures ∙ c.if-is_some.true)
