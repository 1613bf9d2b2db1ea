-- The type is among the listed types that are left exactly where it is among all that are listed.
use Rattle.std.proofs.Common.{◌≡◌, map, drop}
use Rattle.std.specs.List.{list_any}
use Rattle.x5_model.specs.Selections as model
use Rattle.x5_syntax.specs.TypeView.{type_view}
use Rattle.x5_ops.proofs.reading.is_listed.Given as goal

abbrev pub invariant-loop-listed : goal.invariant-loop-listed
invariant-loop-listed l = list_any (model.is_kind l.kind) (map type_view (drop l.listed-index l.kinds)) ≡ list_any (model.is_kind l.kind) (map type_view l.kinds)
