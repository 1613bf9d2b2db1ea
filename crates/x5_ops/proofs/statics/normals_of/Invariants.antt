-- The normal forms so far, with those of the values that are left, are the normal forms of all values, in their order.
use Rattle.std.proofs.Common.{◌≡◌, ◌++◌, map, drop}
use Rattle.x5_model.specs.Assertions.{normal_for}
use Rattle.x5_syntax.specs.TypeView.{type_view}
use Rattle.x5_syntax.specs.ValueView.{value_view}
use Rattle.x5_ops.proofs.statics.normals_of.Given as goal

abbrev pub invariant-loop-value : goal.invariant-loop-value
invariant-loop-value l =
    l.normals.items ++ map (λ v. normal_for (type_view l.kind) (value_view v)) (drop l.value-index l.values) ≡ map (λ v. normal_for (type_view l.kind) (value_view v)) l.values
