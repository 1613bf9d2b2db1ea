-- What a user is answered (X.511).
use Rattle.std.specs.Prelude.{ℕ, Bool, List}
use Rattle.std.specs.declared.option.Option.{Option}
use Rattle.x5_model.specs.Values.{TypeRef, Value, Rdn, Name}
use Rattle.x5_model.specs.References.{Reference, TraceItem}

-- an attribute as an answer shows it
pub record Shown : Type 0 where
  pub kind : TypeRef
  pub values : List Value

-- what an answer says of an entry (X.511, section 7.7); `copy` where it comes from a shadow
pub record EntryInfo : Type 0 where
  pub name : Name
  pub copy : Bool
  pub attributes : List Shown

-- what a list says of an entry below
pub record Sub : Type 0 where
  pub rdn : Rdn
  pub copy : Bool

-- a naming context that an answer was computed from, its agent, and the moment of the copy; none at a master. Sources
-- are this project's own.
pub record Source : Type 0 where
  pub context : Name
  pub agent : ℕ
  pub moment : Option ℕ

-- whether a size limit cut the answer, and the parts that nobody looked into (X.511, section 10.1.3: partial outcome
-- qualifier)
pub record Outcome : Type 0 where
  pub limited : Bool
  pub unexplored : List Reference

pub data Answer : Type 0 where
  EntryFound : EntryInfo → Source → Answer
  Matched : Bool → Bool → Source → Answer
  Listed : List Sub → List Source → Outcome → Answer
  Found : List EntryInfo → List Source → Outcome → Answer
  Changed : Answer

-- problems by their numbers: of attributes, of updates and of the service (X.511, section 12). What a problem of the
-- service tells beside its number is this project's own.
pub data DirError : Type 0 where
  NoSuchObject : Name → DirError
  AttributeProblem : ℕ → TypeRef → DirError
  UpdateProblem : ℕ → DirError
  ServiceProblem : ℕ → Option Reference → Option TraceItem → DirError

pub data Reply : Type 0 where
  Answered : Answer → Reply
  Failed : DirError → Reply
  Referred : Reference → Reply
