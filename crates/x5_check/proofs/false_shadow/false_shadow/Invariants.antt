-- The first breach of condition 5 among the agents that are left is the world's first: no agent so far refers to a
-- false shadow agent.
use Rattle.std.proofs.Common.{◌≡◌, drop}
use Rattle.std.specs.List.{flat_map}
use Rattle.x5_model.specs.Words.{first_of}
use Rattle.x5_model_tree.specs.Consistent.{false_shadows, references, specific_of, breaches_5}
use Rattle.x5_check.proofs.false_shadow.false_shadow.Given as goal

abbrev pub invariant-loop-agent : goal.invariant-loop-agent
invariant-loop-agent l =
    first_of (flat_map (λ a. flat_map (λ r. false_shadows l.known (specific_of r)) (references a.1)) (drop l.agent-index l.agents)) ≡ first_of (breaches_5 l.known)
