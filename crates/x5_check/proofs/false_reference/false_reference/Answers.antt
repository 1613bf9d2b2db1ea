-- What is told first of the first member of which something is told.
use Rattle.std.proofs.Common.{◌≡◌, ◌<◌, List, length, get_or, subst, sym, ◌∙◌}
use Rattle.std.specs.List.{flat_map}
use Rattle.std.proofs.Common.{ℕ}
use Rattle.x5_model_tree.specs.World.{Agent}
use Rattle.x5_model_tree.specs.Consistent.{false_reference, references}
use Rattle.x5_check.specs.Views.{breach_view}
use Rattle.x5_check.proofs.ByAgent.{agent_of}
use Rattle.x5_check.proofs.Steps.{stop}
use Rattle.x5_check.proofs.false_reference.false_reference.Goals as goal

pub returns-then-is_some : goal.returns-then-is_some
returns-then-is_some c =
    stop breach_view (λ (a : ℕ × Agent). flat_map (false_reference c.args.known.now a.0 a.1) (references a.1)) c.agents-agents.result.now c.loop-agent.agent-index _ c.loop-agent.invariant c.in_ok-told.told c.agent-item.result c.loop-agent-test.true c.agent-item.is c.in_ok-told.ensures (sym c.is_some.ensures ∙ c.if-is_some.true)

pub false_references_of-requires : goal.false_references_of-requires
false_references_of-requires c =
    agent_of c.args.known.now c.loop-agent.agent-index c.agent-item.result (subst (λ (xs : List (ℕ × Agent)). c.loop-agent.agent-index < length xs) c.agents-agents.ensures c.loop-agent-test.true) (subst (λ (xs : List (ℕ × Agent)). c.agent-item.result ≡ get_or xs c.loop-agent.agent-index c.agent-item.result) c.agents-agents.ensures c.agent-item.is)
