-- The first breach of condition 6 among the pins that are left is the world's first: each pin so far is known to all
-- masters of its parent.
use Rattle.std.proofs.Common.{◌≡◌, drop}
use Rattle.std.specs.List.{flat_map}
use Rattle.x5_model.specs.Words.{first_of}
use Rattle.x5_model_tree.specs.Masters.{numbered}
use Rattle.x5_model_tree.specs.Consistent.{unknown_below, breaches_6}
use Rattle.x5_check.proofs.unknown_below.unknown_below.Given as goal

abbrev pub invariant-loop-below : goal.invariant-loop-below
invariant-loop-below l =
    first_of (flat_map (λ p. flat_map (λ a. flat_map (λ c. unknown_below l.known a.0 a.1 c p) a.1.contexts) (numbered l.known)) (drop l.below-index l.held)) ≡ first_of (breaches_6 l.known)
