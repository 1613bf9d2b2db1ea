-- The first breach of condition 3 among the contexts that are left is the world's first: no entry of a context so far
-- has a longer pin.
use Rattle.std.proofs.Common.{◌≡◌, drop}
use Rattle.std.specs.List.{flat_map}
use Rattle.x5_model.specs.Words.{first_of}
use Rattle.x5_model_tree.specs.Masters.{mastered}
use Rattle.x5_model_tree.specs.Consistent.{longer_pin, breaches_3}
use Rattle.x5_check.proofs.longer_pin.longer_pin.Given as goal

abbrev pub invariant-loop-context : goal.invariant-loop-context
invariant-loop-context l =
    first_of (flat_map (λ m. flat_map (λ e. flat_map (longer_pin m e) (mastered l.known)) m.context.entries) (drop l.context-index l.held)) ≡ first_of (breaches_3 l.known)
