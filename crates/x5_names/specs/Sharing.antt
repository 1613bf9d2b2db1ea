-- The pairs that the copies of an RDN share: one, or a list.
use Rattle.std.specs.Prelude.{[], ◌∷◌}
use Rattle.x5_model.specs.Values.{Rdn}
use Rattle.x5_names.specs.declared.spelled.Pairs.{Pairs}
use Rattle.x5_names.specs.declared.spelled.Pairs.TheVariants.{One, Many}

abbrev pub shared_pairs : Pairs → Rdn
shared_pairs (One pair) = pair.value ∷ []
shared_pairs (Many pairs) = pairs.value.items
