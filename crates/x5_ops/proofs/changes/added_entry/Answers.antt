-- Attributes without repeats have no equal values.
use Rattle.std.proofs.Common.{List, [], map, sym, ap, ◌∙◌, Option}
use Rattle.std.specs.Option.{option_map}
use Rattle.x5_model.specs.Statics as model
use Rattle.x5_model.specs.Words.{first_of}
use Rattle.x5_ops.specs.RefusalView.{refusal_view}
use Rattle.x5_ops.specs.RequestViews.{attribute_view}
use Rattle.x5_ops.specs.declared.requests.Attribute.{Attribute}
use Rattle.x5_ops.specs.declared.statics.Refusal.{Refusal}
use Rattle.x5_ops.proofs.Refusals.{apart_without_repeats}
use Rattle.x5_ops.proofs.changes.added_entry.Goals as goal

pub stored_entry-requires : goal.stored_entry-requires
stored_entry-requires c =
    apart_without_repeats (map attribute_view c.args.offered.now)
    (ap (λ (l : List Attribute). first_of (model.attribute_repeats [] (map attribute_view l))) (sym c.as_slice.ensures)
    ∙ sym c.in_ok-refusal.ensures
    ∙ ap (λ (r : Option Refusal). option_map refusal_view r) c.in-None.is)
