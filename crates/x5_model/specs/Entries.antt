-- Entries (X.501, section 8: directory entries): attributes with their values. Their order is this project's own.
use Rattle.std.specs.Prelude.{ℕ, List}
use Rattle.x5_model.specs.Values.{StoredValue, Name}

-- an attribute of an entry: its type's number, and its values in the order of their normal forms
pub record Stored : Type 0 where
  pub kind : ℕ
  pub values : List StoredValue

-- an entry: its attributes in the order of their types
pub record Entry : Type 0 where
  pub attributes : List Stored

-- an entry with its name, as it is spelled
pub record Named : Type 0 where
  pub name : Name
  pub entry : Entry
