-- The new attributes are in order.
use Rattle.std.proofs.Common.{not, ◌==◌, if◌then◌else◌, List, ◌∙◌, ap}
use Rattle.std.specs.List.{filter}
use Rattle.x5_model.specs.Words.{is_empty, insert_sorted}
use Rattle.x5_model.specs.Entries.{Stored, Entry}
use Rattle.x5_model.specs.Attributes.{kind_below}
use Rattle.x5_ops.proofs.EntryOrder.{from_list_ordered}
use Rattle.x5_ops.proofs.entries.with_values.Goals as goal

pub from_list-requires : goal.from_list-requires
from_list-requires c =
    let new : Stored = record { kind = c.args.kind; values = c.args.values } in
    let held = c.in_ok-held.ensures ∙ ap (λ (e : Entry). e.attributes) c.entry.view_is in
    let others = c.in_ok-others.ensures ∙ ap (filter (λ (a : Stored). not (a.kind == c.args.kind))) held in
    from_list_ordered c.args.kind c.args.values c.args.entry c.from_vec.result c.attributes-ordered.ensures.ordered c.requires
    (c.from_vec.ensures ∙ c.in_ok-attributes.ensures ∙ ap (λ (o : List Stored). if is_empty c.args.values then o else insert_sorted kind_below new o) others)
