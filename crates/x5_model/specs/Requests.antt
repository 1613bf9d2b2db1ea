-- What a user asks (X.511).
use Rattle.std.specs.Prelude.{ℕ, Bool, List}
use Rattle.std.specs.declared.option.Option.{Option}
use Rattle.x5_model.specs.Values.{TypeRef, Offered, Rdn, Name}
use Rattle.x5_model.specs.Filters.{Assertion, Filter}

-- where a search looks: at the base, just below it, or at it and all below (X.511, section 10.2.2)
pub data Subset : Type 0 where
  Base : Subset
  OneLevel : Subset
  WholeSubtree : Subset

-- which attributes an answer shows (X.511, section 7.6)
pub data Selection : Type 0 where
  All : Selection
  Only : List TypeRef → Selection

-- an attribute that somebody offers
pub record Attribute : Type 0 where
  pub kind : TypeRef
  pub values : List Offered

-- one change of a modifyEntry (X.511, section 11.3.2)
pub data Change : Type 0 where
  AddAttribute : Attribute → Change
  RemoveAttribute : TypeRef → Change
  AddValues : Attribute → Change
  RemoveValues : Attribute → Change

-- dontUseCopy, chainingProhibited and the size limit (X.511, section 7.5)
pub record Controls : Type 0 where
  pub nocopy : Bool
  pub nochain : Bool
  pub size : Option ℕ

pub data Body : Type 0 where
  Read : Name → Selection → Body
  Compare : Name → Assertion → Body
  ListBelow : Name → Body
  Search : Name → Subset → Filter → Selection → Body
  AddEntry : Name → List Attribute → Body
  RemoveEntry : Name → Body
  ModifyEntry : Name → List Change → Body
  ModifyDn : Name → Rdn → Bool → Body

pub record Request : Type 0 where
  pub controls : Controls
  pub body : Body
