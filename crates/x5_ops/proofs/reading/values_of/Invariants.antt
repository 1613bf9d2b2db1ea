-- The values copied so far, with the values of the stored ones that are left, are the values of all stored ones.
use Rattle.std.proofs.Common.{◌≡◌, ◌++◌, map, drop}
use Rattle.x5_syntax.specs.ValueView.{value_view}
use Rattle.x5_ops.proofs.reading.values_of.Given as goal

abbrev pub invariant-loop-stored : goal.invariant-loop-stored
invariant-loop-stored l = map value_view l.list.items ++ map (λ v. v.value) (drop l.stored-index l.values) ≡ map (λ v. v.value) l.values
