-- The rows so far, followed by those of the agents that are left, are the rows of all agents: each pin of the agent's
-- subordinate references with the agent.
use Rattle.std.proofs.Common.{◌≡◌, ◌++◌, drop}
use Rattle.x5_check.specs.Numbers.{rows_by, reference_keys}
use Rattle.x5_check.proofs.known.references_by_agent.Given as goal

abbrev pub invariant-loop-agent : goal.invariant-loop-agent
invariant-loop-agent l =
    l.rows.items ++ rows_by (λ m. m.0) reference_keys (drop l.agent-index l.agents) ≡ rows_by (λ m. m.0) reference_keys l.agents
