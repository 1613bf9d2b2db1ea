-- The copies kept so far, with the values left that have another normal form, are all values that have another.
use Rattle.std.proofs.Common.{◌≡◌, ◌++◌, not, drop}
use Rattle.std.specs.List.{filter}
use Rattle.x5_model.specs.Words.{same_octets}
use Rattle.x5_ops.proofs.entries.other_values.Given as goal

abbrev pub invariant-loop-value : goal.invariant-loop-value
invariant-loop-value l = l.kept.items ++ filter (λ v. not (same_octets v.normal l.normal)) (drop l.value-index l.values) ≡ filter (λ v. not (same_octets v.normal l.normal)) l.values
