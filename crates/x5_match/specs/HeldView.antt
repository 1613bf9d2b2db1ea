-- The attributes of a list, its own or shared with other lists.
use Rattle.std.specs.Prelude.{List}
use Rattle.x5_model.specs.Entries as entries
use Rattle.x5_match.specs.declared.entry.Held.{Held}
use Rattle.x5_match.specs.declared.entry.Held.TheVariants.{Own, Shared}

abbrev pub held_view : Held → List entries.Stored
held_view (Own attributes) = attributes.items
held_view (Shared attributes) = attributes.value.items
