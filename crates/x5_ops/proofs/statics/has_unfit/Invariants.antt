-- A value that is left has no normal form for the type exactly where one of all the values has none.
use Rattle.std.proofs.Common.{◌≡◌, drop}
use Rattle.std.specs.List.{list_any}
use Rattle.std.specs.Option.{is_none}
use Rattle.x5_syntax.specs.TypeView.{type_view}
use Rattle.x5_ops.specs.RefusalView.{given_values}
use Rattle.x5_ops.proofs.statics.has_unfit.Given as goal

abbrev pub invariant-loop-value : goal.invariant-loop-value
invariant-loop-value l =
    list_any (λ v. is_none v.normal) (given_values (type_view l.kind) (drop l.value-index l.values)) ≡ list_any (λ v. is_none v.normal) (given_values (type_view l.kind) l.values)
