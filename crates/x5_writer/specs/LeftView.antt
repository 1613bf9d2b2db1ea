-- The components of a content that are still to be written.
use Rattle.std.specs.Prelude.{List, [], ◌∷◌}
use Rattle.x5_model_typed.specs.Forms as forms
use Rattle.x5_types.specs.FormView.{named_view, components_view}
use Rattle.x5_writer.specs.declared.components.Left.{Left}
use Rattle.x5_writer.specs.declared.components.Left.TheVariants as left

abbrev pub left_view : Left → List forms.Component
left_view (left.Listed cs) = components_view cs.now
left_view (left.Named form) = forms.plain (named_view form) ∷ []
