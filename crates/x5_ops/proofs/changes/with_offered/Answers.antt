-- Values that are apart are kept in order.
use Rattle.std.proofs.Common.{◌≡◌, true, List, sym, subst}
use Rattle.x5_model.specs.Words.{ascending, distinct}
use Rattle.x5_model.specs.Values.{StoredValue, Known}
use Rattle.x5_model.specs.Attributes.{value_below}
use Rattle.x5_model.specs.Statics.{same_offered}
use Rattle.x5_ops.specs.RefusalView.{given_values}
use Rattle.x5_ops.proofs.Apart.{stored_ascending}
use Rattle.x5_ops.proofs.Offering.{twice_not}
use Rattle.x5_ops.proofs.changes.with_offered.Goals as goal

pub with_values-requires : goal.with_values-requires
with_values-requires c =
    subst (λ (l : List StoredValue). ascending value_below l ≡ true) (sym c.in_ok-stored.ensures)
    (stored_ascending (given_values (Known c.args.kind) c.args.values.now) (twice_not (distinct same_offered (given_values (Known c.args.kind) c.args.values.now)) c.requires))
