-- Filters (X.511, section 7.8).
use Rattle.std.specs.Prelude.{ℕ, List}
use Rattle.std.specs.declared.option.Option.{Option}
use Rattle.x5_model.specs.Values.{TypeRef, Value}

-- a type and a value; there is no normal form where the type is unknown or the value isn't of its kind
pub record Assertion : Type 0 where
  pub kind : TypeRef
  pub value : Value
  pub normal : Option (List ℕ)

-- the normal forms of the parts of a substrings item
pub record Parts : Type 0 where
  pub initial : Option (List ℕ)
  pub any : List (List ℕ)
  pub last : Option (List ℕ)

pub data PiecePlace : Type 0 where
  Initial : PiecePlace
  Any : PiecePlace
  Last : PiecePlace

pub record Piece : Type 0 where
  pub place : PiecePlace
  pub value : Value

-- there are no normal forms where the type is unknown, its kind has no substrings, or a part isn't of the kind
pub record SubstringItem : Type 0 where
  pub kind : TypeRef
  pub pieces : List Piece
  pub normal : Option Parts

pub data Item : Type 0 where
  Equality : Assertion → Item
  Substrings : SubstringItem → Item
  GreaterOrEqual : Assertion → Item
  LessOrEqual : Assertion → Item
  Present : TypeRef → Item
  Approximate : Assertion → Item

mutual
  pub data Filter : Type 0 where
    Is : Item → Filter
    And : Filters → Filter
    Or : Filters → Filter
    Not : Filter → Filter

  pub data Filters : Type 0 where
    Nil : Filters
    More : Filter → Filters → Filters
