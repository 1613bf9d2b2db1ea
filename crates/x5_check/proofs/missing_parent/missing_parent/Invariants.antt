-- The first breach of condition 2 among the contexts that are left is the world's first: each prefix so far has a
-- parent.
use Rattle.std.proofs.Common.{◌≡◌, drop}
use Rattle.std.specs.List.{flat_map}
use Rattle.x5_model.specs.Words.{first_of}
use Rattle.x5_model_tree.specs.Consistent.{breaches_2}
use Rattle.x5_check.specs.Parts.{missing_parent_part}
use Rattle.x5_check.proofs.missing_parent.missing_parent.Given as goal

abbrev pub invariant-loop-context : goal.invariant-loop-context
invariant-loop-context l =
    first_of (flat_map (missing_parent_part l.known) (drop l.context-index l.held)) ≡ first_of (breaches_2 l.known)
