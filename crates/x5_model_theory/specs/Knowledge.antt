-- What agents know of each other, by keys alone (X.501, section 22; X.518, section 9): the naming contexts with
-- their masters, the references, superiors and shadowing agreements. An agent is a number.
use Rattle.std.specs.Prelude.{◌≡◌, ℕ, List, Option}
use Rattle.x5_model.specs.Keys.{Key}
use Rattle.x5_model.specs.Members.{In}

-- a non-specific subordinate reference: an entry, and agents that master something just below it
pub record Spot : Type 0 where
  pub at : Key
  pub agents : List ℕ

-- a naming context: its master, its prefix, its entries and its non-specific subordinate references
pub record Area : Type 0 where
  pub master : ℕ
  pub prefix : Key
  pub entries : List Key
  pub nssrs : List Spot

-- a subordinate or cross reference that an agent keeps: a pin, the agent that it takes for its master, and shadows
pub record Pointer : Type 0 where
  pub owner : ℕ
  pub pin : Key
  pub master : ℕ
  pub shadows : List ℕ

-- an agent gets a copy of a context from another
pub record Supply : Type 0 where
  pub supplier : ℕ
  pub consumer : ℕ
  pub prefix : Key

pub record Knowledge : Type 0 where
  pub agents : List ℕ
  pub superior : ℕ → Option ℕ
  pub areas : List Area
  pub subordinate : List Pointer
  pub cross : List Pointer
  pub supplies : List Supply

-- an entry of the one tree
abbrev pub IsEntry : Knowledge → Key → Type 0
IsEntry k e = (c : Area) × In c k.areas × In e c.entries

-- a context prefix, with its master
abbrev pub IsMastered : Knowledge → ℕ → Key → Type 0
IsMastered k agent p = (c : Area) × In c k.areas × (c.master ≡ agent) × (c.prefix ≡ p)

-- the agent has a copy of the context
abbrev pub IsConsumed : Knowledge → ℕ → Key → Type 0
IsConsumed k agent p = (s : Supply) × In s k.supplies × (s.consumer ≡ agent) × (s.prefix ≡ p)

-- the agent has a subordinate reference to the pin
abbrev pub IsReferred : Knowledge → ℕ → Key → Type 0
IsReferred k agent p = (r : Pointer) × In r k.subordinate × (r.owner ≡ agent) × (r.pin ≡ p)
