-- Attributes and entries by their parts.
use Rattle.std.specs.Prelude.{ℕ, Bool, false, List, [], ◌∷◌}
use Rattle.std.specs.declared.option.Option.{Option}
use Rattle.std.specs.declared.option.Option.TheVariants.{None}
use Rattle.x5_model_typed.specs.Nodes.{Node}
use Rattle.x5_model_typed.specs.Rules.{known_type, is_true}

-- the type of an attribute
abbrev pub stored_type_in : List Node → Option ℕ
stored_type_in (type ∷ values ∷ []) = known_type type
stored_type_in other = None

-- whether an entry's attributes are from the entry itself
abbrev pub from_entry_in : List Node → Bool
from_entry_in (name ∷ from_entry ∷ attributes ∷ []) = is_true from_entry
from_entry_in other = false
