-- What agents hold within the limits of messages (X.501, sections 8, 9 and 22: entries, names, DSA information tree):
-- what is shown of entries, and the names that references are made of. The numbers are this project's own.
use Rattle.std.specs.Prelude.{◌≡◌, ℕ, nat_lt, true, false}
use Rattle.x5_model.specs.Words.{is_empty}
use Rattle.x5_model.specs.Values.{StoredValue}
use Rattle.x5_model.specs.Types.{is_known}
use Rattle.x5_model.specs.Entries.{Stored, Named}
use Rattle.x5_model_tree.specs.World.{Specific}
use Rattle.x5_model_run.specs.Holdings.{Held, Copy, Holdings}
use Rattle.x5_model_run.specs.Chain.{Scene}
use Rattle.x5_model_fitting.specs.Names.{Each, NameWithin}
use Rattle.x5_model_fitting.specs.Terms.{ValueWithin}
use Rattle.x5_model_fitting.specs.Requests.{CountWithin, IfThere}

-- An attribute of an entry (X.501, section 8): a type of the table, and one value at least.
abbrev pub BoundedValue : StoredValue → Type 0
BoundedValue v = ValueWithin v.value

pub record BoundedStored (a : Stored) : Type 0 where
  pub type : is_known a.kind ≡ true
  pub some : is_empty a.values ≡ false
  pub values : Each BoundedValue a.values

-- An entry: its name has one RDN at least.
pub record BoundedEntry (e : Named) : Type 0 where
  pub name : NameWithin e.name
  pub some : is_empty e.name ≡ false
  pub attributes : Each BoundedStored e.entry.attributes

-- A subordinate or cross reference: it names an entry.
pub record BoundedSpecific (k : Specific) : Type 0 where
  pub pin : NameWithin k.pin
  pub some : is_empty k.pin ≡ false

-- A naming context, and the knowledge that goes with it. Of an NSSR nothing but its agents is carried.
pub record BoundedContext (c : Held) : Type 0 where
  pub prefix : NameWithin c.prefix
  pub some : is_empty c.prefix ≡ false
  pub entries : Each BoundedEntry c.entries
  pub subordinate : Each BoundedSpecific c.subordinate

-- A copy: the moment of its last refresh has four octets (X.525, section 9).
pub record BoundedCopy (c : Copy) : Type 0 where
  pub held : BoundedContext c.held
  pub stamp : IfThere CountWithin c.stamp

-- All that an agent holds.
pub record BoundedHoldings (h : Holdings) : Type 0 where
  pub own : Each BoundedContext h.own
  pub copies : Each BoundedCopy h.copies
  pub root : Each BoundedSpecific h.root
  pub cross : Each BoundedSpecific h.cross

-- so for each agent of a world that has so many
abbrev pub HoldBounded : ℕ → Scene → Type 0
HoldBounded n s = (a : ℕ) → nat_lt a n ≡ true → BoundedHoldings (s.holdings a)
