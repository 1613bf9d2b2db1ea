-- The first breach of condition 6 among the contexts from the place on is the pin's first: the earlier ones lack its
-- parent or their masters know it. The loop ends since fewer contexts are left each time.
use Rattle.std.proofs.Common.{◌≡◌, ◌-◌, drop, length}
use Rattle.std.specs.List.{flat_map}
use Rattle.x5_model.specs.Words.{first_of}
use Rattle.x5_model_tree.specs.Masters.{mastered, numbered}
use Rattle.x5_model_tree.specs.Consistent.{unknown_below}
use Rattle.x5_check.specs.Parts.{unknown_part}
use Rattle.x5_check.proofs.unknown_below.unknown_below_of.Given as goal

abbrev pub invariant-loop-place : goal.invariant-loop-place
invariant-loop-place l =
    first_of (flat_map (unknown_part l.known l.below) (drop l.from (mastered l.known))) ≡ first_of (flat_map (λ a. flat_map (λ c. unknown_below l.known a.0 a.1 c l.below) a.1.contexts) (numbered l.known))

abbrev pub decreases-loop-place : goal.decreases-loop-place
decreases-loop-place l = length l.held - l.from
