-- The world as it is described: agents, the naming contexts that they master, what they know of others, and the
-- shadowing agreements (X.501: knowledge; X.525: shadowing agreements). An agent is its place in the list.
-- Names of entries are whole: the context prefix as it is spelled for the context, then the RDNs of the entries on the
-- way.
use Rattle.std.specs.Prelude.{ℕ, Bool, List, map}
use Rattle.std.specs.declared.option.Option.{Option}
use Rattle.x5_model.specs.Values.{Text, Name}
use Rattle.x5_model.specs.Entries.{Named}

-- where a context can be asked for: its master, and agents that have a copy
pub record Access : Type 0 where
  pub master : ℕ
  pub shadows : List ℕ

-- a subordinate or cross reference
pub record Specific : Type 0 where
  pub pin : Name
  pub access : Access

-- a non-specific subordinate reference: agents that master something just below the entry
pub record Nssr : Type 0 where
  pub at : Name
  pub agents : List ℕ

-- a naming context: its prefix, its entries (the prefix's first), and its NSSRs
pub record Context : Type 0 where
  pub prefix : Name
  pub entries : List Named
  pub nssrs : List Nssr

-- An agent without a superior is first-level. Its references stand in the file in one list: `crosses` tells of each of
-- them, in their order, whether it's a cross reference.
pub record Agent : Type 0 where
  pub name : Text
  pub superior : Option ℕ
  pub contexts : List Context
  pub subordinate : List Specific
  pub cross : List Specific
  pub crosses : List Bool

pub record Agreement : Type 0 where
  pub number : ℕ
  pub supplier : ℕ
  pub consumer : ℕ
  pub context : Name

-- agents that are down or refuse to chain, pairs that are cut, and the numbers of the messages and replies that are
-- lost
pub record Network : Type 0 where
  pub down : List ℕ
  pub refusing : List ℕ
  pub cut : List (ℕ × ℕ)
  pub lost_messages : List ℕ
  pub lost_replies : List ℕ

pub record World : Type 0 where
  pub agents : List Agent
  pub agreements : List Agreement
  pub network : Network

-- the names of its agents, by their places
abbrev pub names_of_agents : World → List Text
names_of_agents w = map (λ a. a.name) w.agents
