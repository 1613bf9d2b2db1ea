-- The attribute goes before the first of a type whose number isn't smaller.
use Rattle.std.proofs.Common.{not, nat_lt, insert, sym, ◌∙◌, ap}
use Rattle.std.specs.List.{position_or_len}
use Rattle.x5_model.specs.Entries.{Stored}
use Rattle.x5_model.specs.Attributes.{kind_below}
use Rattle.x5_ops.proofs.Inserting.{inserted_is}
use Rattle.x5_ops.proofs.entries.insert_attribute.Goals as goal

pub returns : goal.returns
returns c =
    let new : Stored = record { kind = c.args.kind; values = c.args.values } in
    let place = c.place_of_type-place.ensures.place ∙ ap (position_or_len (λ (a : Stored). not (nat_lt a.kind c.args.kind))) c.deref.ensures.value in
    c.in_ok-insert.ensures.items
    ∙ ap (λ n. insert c.args.attributes.now.items n new) place
    ∙ sym (inserted_is kind_below new c.args.attributes.now.items)
