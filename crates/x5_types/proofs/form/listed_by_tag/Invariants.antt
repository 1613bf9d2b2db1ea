-- The first with the tag is the first of those that are left.
use Rattle.std.proofs.Common.{◌≡◌, drop}
use Rattle.x5_model_typed.specs.Forms as forms
use Rattle.x5_model_typed.specs.Layouts.{Surroundings}
use Rattle.x5_types.specs.FormView.{types_view}
use Rattle.x5_types.proofs.form.listed_by_tag.Given as goal

abbrev pub invariant-loop-a : goal.invariant-loop-a
invariant-loop-a l = (w : Surroundings) → forms.by_tag l.class l.tag (types_view w (drop l.a-index l.types)) ≡ forms.by_tag l.class l.tag
    (types_view w l.types)
