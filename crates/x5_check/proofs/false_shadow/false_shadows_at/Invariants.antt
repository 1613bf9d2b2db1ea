-- The first breach of condition 5 among the references that are left is the agent's first: none so far has a false
-- shadow agent.
use Rattle.std.proofs.Common.{◌≡◌, drop}
use Rattle.std.specs.List.{flat_map}
use Rattle.x5_model.specs.Words.{first_of}
use Rattle.x5_model_tree.specs.Consistent.{false_shadows, references, specific_of}
use Rattle.x5_check.proofs.false_shadow.false_shadows_at.Given as goal

abbrev pub invariant-loop-reference : goal.invariant-loop-reference
invariant-loop-reference l =
    first_of (flat_map (λ r. false_shadows l.known (specific_of r)) (drop l.reference-index l.references)) ≡ first_of (flat_map (λ r. false_shadows l.known (specific_of r)) (references l.agent.1))
