-- The first breach of condition 3 among the entries that are left is the context's first: no entry so far has a longer
-- pin.
use Rattle.std.proofs.Common.{◌≡◌, drop}
use Rattle.std.specs.List.{flat_map}
use Rattle.x5_model.specs.Words.{first_of}
use Rattle.x5_model_tree.specs.Masters.{mastered}
use Rattle.x5_model_tree.specs.Consistent.{longer_pin}
use Rattle.x5_check.proofs.longer_pin.longer_pins_of.Given as goal

abbrev pub invariant-loop-entry : goal.invariant-loop-entry
invariant-loop-entry l =
    first_of (flat_map (λ e. flat_map (longer_pin l.context e) (mastered l.known)) (drop l.entry-index l.entries)) ≡ first_of (flat_map (λ e. flat_map (longer_pin l.context e) (mastered l.known)) l.context.context.entries)
