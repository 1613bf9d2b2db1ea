-- The first that is marked is the first of those that are left.
use Rattle.std.proofs.Common.{◌≡◌, drop}
use Rattle.std.specs.List.{find}
use Rattle.x5_model_typed.specs.Layouts.{Surroundings}
use Rattle.x5_model_typed.specs.Written as written
use Rattle.x5_types.specs.FormView.{types_view}
use Rattle.x5_writer.proofs.choices.listed_marked.Given as goal

abbrev pub invariant-loop-a : goal.invariant-loop-a
invariant-loop-a l = (w : Surroundings) → find (written.is_marked l.tag) (types_view w (drop l.a-index l.types)) ≡ find (written.is_marked l.tag) (types_view w l.types)
