-- The first breach of condition 4 among the agents that are left is the world's first: no agent so far has a false
-- reference.
use Rattle.std.proofs.Common.{◌≡◌, drop}
use Rattle.std.specs.List.{flat_map}
use Rattle.x5_model.specs.Words.{first_of}
use Rattle.x5_model_tree.specs.Consistent.{false_reference, references, breaches_4}
use Rattle.x5_check.proofs.false_reference.false_reference.Given as goal

abbrev pub invariant-loop-agent : goal.invariant-loop-agent
invariant-loop-agent l =
    first_of (flat_map (λ a. flat_map (false_reference l.known a.0 a.1) (references a.1)) (drop l.agent-index l.agents)) ≡ first_of (breaches_4 l.known)
