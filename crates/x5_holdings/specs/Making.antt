-- Changes of the entries of a context that are ready to be made: each can't fail and takes no memory (X.511, section
-- 11).
use Rattle.std.specs.Prelude.{◌≡◌, ◌<◌, ◌≤◌, ◌+◌, ℕ, true, false, IsTrue, List, [], length}
use Rattle.std.specs.declared.option.Option.TheVariants.{Some}
use Rattle.x5_model.specs.Keys.{KeyPair, parent}
use Rattle.x5_model.specs.Values.{Name, Rdn, key_of}
use Rattle.x5_model.specs.Entries.{Entry}
use Rattle.x5_model.specs.Attributes.{is_ordered}
use Rattle.x5_model_tree.specs.Tree.{is_there, has_below}
use Rattle.x5_dse.specs.declared.node.NodeId.{NodeId}
use Rattle.x5_dse.specs.Linked.{Node, entries_of, is_first, is_live, node_key, node_with}
use Rattle.x5_dse.specs.Changes.{Inserted, Removed, Replaced, Renamed, is_taken}
use Rattle.x5_index.specs.Index.{terms_of}
use Rattle.x5_holdings.specs.declared.log.Logged.{Logged}
use Rattle.x5_holdings.specs.declared.changing.EntryChange.{EntryChange}
use Rattle.x5_holdings.specs.declared.changing.EntryChange.TheVariants.{Add, Remove, Replace, Rename}
use Rattle.x5_holdings.specs.Logs.{IsLogged}
use Rattle.x5_holdings.specs.State.{Kept}

-- the room has an entry's values, and there is room for them
pub record IsRoomOf (c : Kept) (entry : Entry) (room : List KeyPair) : Type 0 where
  pub values : room ≡ terms_of entry
  pub ordered : IsTrue (is_ordered entry)
  pub posted : length room ≤ c.postings.spare

-- the name isn't there, but the one just above is
pub record CanAdd (c : Kept) (name : Name) (entry : Entry) (room : List KeyPair) : Type 0 where
  pub spare : 0 < c.nodes.spare
  pub room_is : IsRoomOf c entry room
  pub absent : is_there (entries_of c.nodes.nodes) (key_of name) ≡ false
  pub above : is_there (entries_of c.nodes.nodes) (parent (key_of name)) ≡ true

-- a leaf other than the prefix's
pub record CanRemove (c : Kept) (id : NodeId) : Type 0 where
  pub live : IsTrue (is_live c.nodes.nodes id)
  pub other : is_first c.nodes.nodes id ≡ false
  pub leaf : (n : Node) → node_with c.nodes.nodes id ≡ Some n → has_below (entries_of c.nodes.nodes) (node_key n)
      ≡ false

pub record CanReplace (c : Kept) (id : NodeId) (entry : Entry) (room : List KeyPair) : Type 0 where
  pub live : IsTrue (is_live c.nodes.nodes id)
  pub room_is : IsRoomOf c entry room

-- another than the prefix's, and no other entry has the name
pub record CanRename (c : Kept) (id : NodeId) (rdn : Rdn) (entry : Entry) (room : List KeyPair) : Type 0 where
  pub live : IsTrue (is_live c.nodes.nodes id)
  pub other : is_first c.nodes.nodes id ≡ false
  pub room_is : IsRoomOf c entry room
  pub free : (n : Node) → node_with c.nodes.nodes id ≡ Some n → is_taken (entries_of c.nodes.nodes) n.named rdn ≡ false

abbrev pub IsReady : Kept → EntryChange → Type 0
IsReady c (Add name entry room) = CanAdd c name entry room
IsReady c (Remove id) = CanRemove c id
IsReady c (Replace id entry room) = CanReplace c id entry room
IsReady c (Rename id rdn entry room) = CanRename c id rdn entry room

-- what it makes of the entries
abbrev pub IsMade : Kept → EntryChange → Kept → Type 0
IsMade c (Add name entry room) d = (id : NodeId) × Inserted c.nodes name entry id d.nodes
IsMade c (Remove id) d = (entry : Entry) × Removed c.nodes id entry d.nodes
IsMade c (Replace id entry room) d = (before : Entry) × Replaced c.nodes id entry before d.nodes
IsMade c (Rename id rdn entry room) d = Renamed c.nodes id rdn entry d.nodes

-- the change is made and noted; its prefix and its knowledge stay
pub record IsChanged (old : Kept) (change : EntryChange) (logged : Logged) (after : Kept) : Type 0 where
  pub made : IsMade old change after
  pub noted : IsLogged old.log logged after.log
  pub prefix : after.prefix ≡ old.prefix
  pub subordinate : after.subordinate ≡ old.subordinate
  pub nssrs : after.nssrs ≡ old.nssrs

-- room aside, nothing changed
pub record IsSame (old after : Kept) : Type 0 where
  pub prefix : after.prefix ≡ old.prefix
  pub nodes : after.nodes.nodes ≡ old.nodes.nodes
  pub postings : after.postings.postings ≡ old.postings.postings
  pub base : after.log.base ≡ old.log.base
  pub changes : after.log.changes ≡ old.log.changes
  pub subordinate : after.subordinate ≡ old.subordinate
  pub nssrs : after.nssrs ≡ old.nssrs

-- room for so many entries with so many values, and for a change in the log
pub record HasRoom (c : Kept) (entries values : ℕ) : Type 0 where
  pub nodes : entries ≤ c.nodes.spare
  pub posted : values ≤ c.postings.spare
  pub note : 0 < c.log.spare

-- room for so many entries with so many values, and for so many changes in the log
pub record HasRoomFor (c : Kept) (entries values changes : ℕ) : Type 0 where
  pub nodes : entries ≤ c.nodes.spare
  pub posted : values ≤ c.postings.spare
  pub notes : changes ≤ c.log.spare

-- the values for which a change needs room
abbrev pub room_of : EntryChange → List KeyPair
room_of (Add name entry room) = room
room_of (Remove id) = []
room_of (Replace id entry room) = room
room_of (Rename id rdn entry room) = room

-- a change takes room of one entry and of its values at most
pub record IsRoomLeft (old : Kept) (change : EntryChange) (after : Kept) : Type 0 where
  pub nodes : old.nodes.spare ≤ after.nodes.spare + 1
  pub posted : old.postings.spare ≤ after.postings.spare + length (room_of change)

-- and of one change in the log
pub record IsLeft (old : Kept) (change : EntryChange) (after : Kept) : Type 0 where
  pub room : IsRoomLeft old change after
  pub notes : old.log.spare ≤ after.log.spare + 1
