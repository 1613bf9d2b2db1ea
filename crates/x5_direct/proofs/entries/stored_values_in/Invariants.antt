-- What was read makes, with what is left, values of the type; it's in order, and the octets that are left are fewer.
use Rattle.std.proofs.Common.{◌≡◌, true, length}
use Rattle.std.specs.List.{list_all}
use Rattle.x5_model.specs.Attributes.{value_below}
use Rattle.x5_model.specs.Normal.{is_of_kind}
use Rattle.x5_model.specs.Types.{kind_of}
use Rattle.x5_model.specs.Words.{ascending}
use Rattle.x5_model_typed.specs.Named as named
use Rattle.x5_direct.specs.Kept.{stored_as}
use Rattle.x5_direct.proofs.Spelling.{Goes}
use Rattle.x5_direct.proofs.entries.stored_values_in.Given as goal

abbrev pub invariant-loop-rest : goal.invariant-loop-rest
invariant-loop-rest l =
    Goes 3 named.Value (stored_as l.kind) l.octets l.values.items l.rest
    × (list_all (λ v. is_of_kind (kind_of l.kind) v.value) l.values.items ≡ true)
    × (ascending value_below l.values.items ≡ true)

abbrev pub decreases-loop-rest : goal.decreases-loop-rest
decreases-loop-rest l = length l.rest
