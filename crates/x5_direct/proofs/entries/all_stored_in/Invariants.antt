-- What was read makes, with what is left, attributes of an entry; it's in order, and the octets that are left are fewer.
use Rattle.std.proofs.Common.{◌≡◌, true, length, map}
use Rattle.std.specs.declared.option.Option.TheVariants.{Some}
use Rattle.x5_model.specs.Attributes.{is_ordered}
use Rattle.x5_model_typed.specs.Named as named
use Rattle.x5_direct.specs.Kept.{kept_in}
use Rattle.x5_direct.proofs.Spelling.{Goes}
use Rattle.x5_direct.proofs.entries.all_stored_in.Given as goal

abbrev pub invariant-loop-rest : goal.invariant-loop-rest
invariant-loop-rest l =
    Goes 5 named.Attribute kept_in l.octets (map (λ a. Some a) l.attributes.items) l.rest
    × (is_ordered (record { attributes = l.attributes.items }) ≡ true)

abbrev pub decreases-loop-rest : goal.decreases-loop-rest
decreases-loop-rest l = length l.rest
