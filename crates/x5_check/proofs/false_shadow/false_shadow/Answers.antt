-- What is told first of the first member of which something is told.
use Rattle.std.proofs.Common.{sym, ◌∙◌}
use Rattle.std.specs.List.{flat_map}
use Rattle.std.proofs.Common.{ℕ}
use Rattle.x5_model_tree.specs.World.{Agent}
use Rattle.x5_model_tree.specs.Consistent.{false_shadows, references, specific_of}
use Rattle.x5_check.specs.Views.{breach_view}
use Rattle.x5_check.proofs.Steps.{stop}
use Rattle.x5_check.proofs.false_shadow.false_shadow.Goals as goal

pub returns-then-is_some : goal.returns-then-is_some
returns-then-is_some c =
    stop breach_view (λ (a : ℕ × Agent). flat_map (λ r. false_shadows c.args.known.now (specific_of r)) (references a.1)) c.agents-agents.result.now c.loop-agent.agent-index _ c.loop-agent.invariant c.in_ok-told.told c.agent-item.result c.loop-agent-test.true c.agent-item.is c.in_ok-told.ensures (sym c.is_some.ensures ∙ c.if-is_some.true)
