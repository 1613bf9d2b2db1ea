-- Attributes without repeats have no equal values.
use Rattle.std.proofs.Common.{List, [], map, sym, ap, ◌∙◌}
use Rattle.x5_model.specs.Statics as model
use Rattle.x5_model.specs.Words.{first_of}
use Rattle.x5_ops.specs.RefusalView.{refusal_view}
use Rattle.x5_ops.specs.RequestViews.{attribute_view}
use Rattle.x5_ops.specs.declared.requests.Attribute.{Attribute}
use Rattle.x5_ops.proofs.Refusals.{apart_without_repeats}
use Rattle.x5_ops.proofs.Refusing.{none_of}
use Rattle.x5_ops.proofs.statics.add_refusal.Goals as goal

pub entry_at-requires : goal.entry_at-requires
entry_at-requires c =
    apart_without_repeats (map attribute_view c.args.attributes.now)
    (none_of refusal_view c.in_ok-refusal-2.refusal _ (sym c.is_some-2.ensures ∙ c.if-is_some-2.false)
    (c.in_ok-refusal-2.ensures ∙ ap (λ (l : List Attribute). first_of (model.attribute_repeats [] (map attribute_view l))) c.as_slice-2.ensures))
