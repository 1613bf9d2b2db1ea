-- The value goes before the first whose normal form isn't smaller.
use Rattle.std.proofs.Common.{not, insert, sym, ◌∙◌, ap}
use Rattle.std.specs.List.{position_or_len}
use Rattle.x5_model.specs.Words.{octets_below}
use Rattle.x5_model.specs.Values.{StoredValue}
use Rattle.x5_model.specs.Attributes.{value_below}
use Rattle.x5_syntax.specs.ValueView.{value_view}
use Rattle.x5_ops.proofs.Inserting.{inserted_is}
use Rattle.x5_ops.proofs.entries.insert_value.Goals as goal

pub returns : goal.returns
returns c =
    let new : StoredValue = record { value = value_view c.args.value; normal = c.args.normal } in
    let place = c.place_of_value-place.ensures.place ∙ ap (position_or_len (λ (v : StoredValue). not (octets_below v.normal c.args.normal))) c.deref.ensures.value in
    c.in_ok-insert.ensures.items
    ∙ ap (λ n. insert c.args.values.now.items n new) place
    ∙ sym (inserted_is value_below new c.args.values.now.items)
