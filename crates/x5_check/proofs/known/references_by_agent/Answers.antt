-- The rows of all members.
use Rattle.std.proofs.Common.{ℕ}
use Rattle.x5_model_tree.specs.World.{Agent}
use Rattle.x5_check.specs.Numbers.{keyed, reference_keys}
use Rattle.x5_check.proofs.Steps.{grown}
use Rattle.x5_check.proofs.Tables.{tabled, references_by_agent}
use Rattle.x5_check.proofs.known.references_by_agent.Goals as goal

pub returns : goal.returns
returns c =
    tabled _ _ _ _ c.sorted.ensures (grown (λ (m : ℕ × Agent). keyed (m.0) (reference_keys m)) c.args.agents.now c.loop-agent.agent-index c.loop-agent.rows.items _ c.loop-agent-test.false c.loop-agent.invariant) (references_by_agent c.args.agents.now)
