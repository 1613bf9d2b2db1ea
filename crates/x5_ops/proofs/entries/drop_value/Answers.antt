-- What is left of the values is in order.
use Rattle.std.proofs.Common.{◌≡◌, true, not, List, sym, subst, ◌∙◌, ap}
use Rattle.std.specs.List.{filter}
use Rattle.x5_model.specs.Words.{ascending, same_octets}
use Rattle.x5_model.specs.Values.{StoredValue}
use Rattle.x5_model.specs.Attributes.{value_below}
use Rattle.x5_ops.proofs.EntryOrder.{drop_ordered}
use Rattle.x5_ops.proofs.entries.drop_value.Goals as goal

pub with_values-requires : goal.with_values-requires
with_values-requires c =
    let left = c.from_vec.ensures ∙ c.in_ok-values.ensures ∙ ap (filter (λ (v : StoredValue). not (same_octets v.normal c.args.normal.now))) c.values.ensures in
    subst (λ (l : List StoredValue). ascending value_below l ≡ true) (sym left) (drop_ordered c.args.kind c.args.normal.now c.args.entry c.attributes-ordered.ensures.ordered)
