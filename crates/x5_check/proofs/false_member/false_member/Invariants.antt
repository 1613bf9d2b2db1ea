-- The first breach of condition 7 among the contexts that are left is the world's first: no context so far has a false
-- member in an NSSR.
use Rattle.std.proofs.Common.{◌≡◌, drop}
use Rattle.std.specs.List.{flat_map}
use Rattle.x5_model.specs.Words.{first_of}
use Rattle.x5_model_tree.specs.Consistent.{breaches_7, false_members}
use Rattle.x5_check.proofs.false_member.false_member.Given as goal

abbrev pub invariant-loop-context : goal.invariant-loop-context
invariant-loop-context l =
    first_of (flat_map (λ m. flat_map (false_members l.known m) m.context.nssrs) (drop l.context-index l.held)) ≡ first_of (breaches_7 l.known)
