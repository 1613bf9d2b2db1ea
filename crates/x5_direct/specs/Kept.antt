-- What the attributes of an entry of a refresh say (X.525, section 10), as the rule of entries keeps them.
use Rattle.std.specs.Prelude.{ℕ}
use Rattle.std.specs.declared.option.Option.{Option}
use Rattle.x5_model.specs.Entries.{Stored}
use Rattle.x5_model.specs.Values.{StoredValue}
use Rattle.x5_model_typed.specs.Leaves.{where_so}
use Rattle.x5_model_typed.specs.Nodes.{Node}
use Rattle.x5_model_typed.specs.Rules.{in_order, is_stored, value_in}
use Rattle.x5_model_messages.specs.Shadows.{stored_in, stored_value}

-- a value of the type with its normal form
abbrev pub stored_as : ℕ → Node → StoredValue
stored_as kind n = stored_value kind (value_in n)

-- an attribute of a type of the table, with values of its kind, each once, in the order of their normal forms
abbrev pub kept_in : Node → Option Stored
kept_in n = where_so (is_stored n) (stored_in (in_order n))
