-- The text so far, and the characters that are left.
use Rattle.std.proofs.Common.{◌≡◌, ◌-◌, ◌≤◌, ◌++◌, ℕ, List, drop, length, string_bytes}
use Rattle.std.specs.Option.{option_map}
use Rattle.x5_model_typed.specs.Leaves as leaves
use Rattle.x5_types.specs.Cells.{encoded}
use Rattle.x5_types.proofs.text.characters.Given as goal

abbrev pub invariant-loop-at : goal.invariant-loop-at
invariant-loop-at l = record {
  there : l.at ≤ length l.octets;
  same : option_map (λ (t : List ℕ). string_bytes l.text ++ t) (encoded (leaves.cells (drop l.at l.octets)))
      ≡ encoded (leaves.cells l.octets);
}

abbrev pub decreases-loop-at : goal.decreases-loop-at
decreases-loop-at l = length l.octets - l.at
