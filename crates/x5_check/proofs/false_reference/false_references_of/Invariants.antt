-- The first breach of condition 4 among the references that are left is the agent's first: each reference so far is
-- right.
use Rattle.std.proofs.Common.{◌≡◌, drop}
use Rattle.std.specs.List.{flat_map}
use Rattle.x5_model.specs.Words.{first_of}
use Rattle.x5_model_tree.specs.Consistent.{false_reference, references}
use Rattle.x5_check.proofs.false_reference.false_references_of.Given as goal

abbrev pub invariant-loop-reference : goal.invariant-loop-reference
invariant-loop-reference l =
    first_of (flat_map (false_reference l.known l.agent.0 l.agent.1) (drop l.reference-index l.references)) ≡ first_of (flat_map (false_reference l.known l.agent.0 l.agent.1) (references l.agent.1))
