-- How the nodes of a tree are kept: in each slot that is used an entry with its own RDN and the node just above, and
-- the numbers of these slots in the order of the nodes above and then of their own RDNs; so what stands just below one
-- node is one run. The prefix's entry is in the first slot.
use Rattle.std.specs.Prelude.{◌≡◌, ◌↔◌, ℕ, zero, suc, ◌+◌, ◌-◌, ◌<◌, ◌≤◌, Bool, true, false, IsTrue, List, [], ◌∷◌}
use Rattle.std.specs.Prelude.{◌++◌, length, map, take, remove, slice_index_or}
use Rattle.std.specs.Option.{is_some}
use Rattle.std.specs.Ordering.{is_lt, ordering_then, nat_cmp}
use Rattle.std.specs.Vec.{vec_len, vec_capacity}
use Rattle.std.specs.declared.cmp.Ordering.{Ordering}
use Rattle.std.specs.declared.option.Option.{Option}
use Rattle.std.specs.declared.option.Option.TheVariants.{None, Some}
use Rattle.std.specs.declared.result.Result.{Result}
use Rattle.std.specs.declared.result.Result.TheVariants.{Ok, Err}
use Rattle.x5_model.specs.Members.{In, Once}
use Rattle.x5_model.specs.Words.{ascending, sorted}
use Rattle.x5_model.specs.Keys.{Key, KeyRdn, parent, rdn_cmp}
use Rattle.x5_model.specs.Values.{Rdn, Name, key_of_rdn, key_of}
use Rattle.x5_model.specs.Entries.{Entry}
use Rattle.x5_dse.specs.declared.node.NodeId.{NodeId}
use Rattle.x5_dse.specs.declared.tree.DseTree.TheInside.{Inside}
use Rattle.x5_dse.specs.Linked.{Node, Nodes, node_below}
use Rattle.x5_dse.specs.Slot.{Slot}

abbrev pub Slots : Type 0
Slots = List (Option Slot)

-- the prefix's node
abbrev pub top : NodeId
top = record { 0 = 0 }

-- a slot, as a list has it; there is none past its end
abbrev pub slot_at : Slots → NodeId → Option Slot
slot_at slots id = slice_index_or slots id.0 None

abbrev pub is_used : Slots → NodeId → Bool
is_used slots id = is_some (slot_at slots id)

-- what a used slot holds
abbrev pub held : Option Slot → Slot
held None = record { parent = top; depth = 0; rdn = []; entry = record { attributes = [] } }
held (Some s) = s

abbrev pub parent_at : Slots → NodeId → NodeId
parent_at slots id = (held (slot_at slots id)).parent

abbrev pub depth_at : Slots → NodeId → ℕ
depth_at slots id = (held (slot_at slots id)).depth

abbrev pub rdn_at : Slots → NodeId → Rdn
rdn_at slots id = (held (slot_at slots id)).rdn

abbrev pub entry_of : Slots → NodeId → Entry
entry_of slots id = (held (slot_at slots id)).entry

-- the RDNs from below the prefix down to a node
abbrev pub path : Slots → ℕ → NodeId → Name
path slots zero id = []
path slots (suc n) id = path slots n (parent_at slots id) ++ rdn_at slots id ∷ []

abbrev pub path_of : Slots → NodeId → Name
path_of slots id = path slots (depth_at slots id) id

abbrev pub name_at : Name → Slots → NodeId → Name
name_at prefix slots id = prefix ++ path_of slots id

abbrev pub node_of : Name → Slots → NodeId → Node
node_of prefix slots id =
    record { id = id; named = record { name = name_at prefix slots id; entry = entry_of slots id } }

-- the nodes in the order of their keys
abbrev pub nodes_of : Name → Slots → List NodeId → List Node
nodes_of prefix slots order = sorted node_below (map (node_of prefix slots) (top ∷ order))

-- where a node stands among the others: the number of the node above, and the key of its own RDN
abbrev pub Spot : Type 0
Spot = ℕ × KeyRdn

abbrev pub spot_cmp : Spot → Spot → Ordering
spot_cmp a b = ordering_then (nat_cmp a.0 b.0) (rdn_cmp a.1 b.1)

abbrev pub spot_below : Spot → Spot → Bool
spot_below a b = is_lt (spot_cmp a b)

abbrev pub spot_at : Slots → NodeId → Spot
spot_at slots id = ((parent_at slots id).0, key_of_rdn (rdn_at slots id))

abbrev pub spots_of : Slots → List NodeId → List Spot
spots_of slots order = map (spot_at slots) order

-- the place at which a spot is, or at which it would go: all before it are below, and all from there on above
abbrev pub IsPlace : List Spot → Spot → Result ℕ ℕ → Type 0
IsPlace spots spot (Ok i) = (i < length spots) × ((d : Spot) → slice_index_or spots i d ≡ spot)
IsPlace spots spot (Err i) = (i ≤ length spots)
    × ((k : ℕ) (d : Spot) → k < i → spot_below (slice_index_or spots k d) spot ≡ true)
    × ((k : ℕ) (d : Spot) → i ≤ k → k < length spots → spot_below spot (slice_index_or spots k d) ≡ true)

-- where the run of what stands just below a node begins
pub record IsStart (spots : List Spot) (node : NodeId) (at : ℕ) : Type 0 where
  pub within : at ≤ length spots
  pub before : (k : ℕ) (d : Spot) → k < at → (slice_index_or spots k d).0 < node.0
  pub after : (k : ℕ) (d : Spot) → at ≤ k → k < length spots → node.0 ≤ (slice_index_or spots k d).0

-- the used slots are the first one and those in order; each but the first is one step below the node above it, which is
-- used
pub record IsRow (slots : Slots) (order : List NodeId) : Type 0 where
  pub used : (id : NodeId) → In id (top ∷ order) ↔ (is_used slots id ≡ true)
  pub first : depth_at slots top ≡ 0
  pub above : (id : NodeId) → In id order → (is_used slots (parent_at slots id) ≡ true)
      × (depth_at slots id ≡ suc (depth_at slots (parent_at slots id)))
  pub in_order : IsTrue (ascending spot_below (spots_of slots order))

-- and the free ones are the others
pub record IsKept (slots : Slots) (order free : List NodeId) : Type 0 where
  pub row : IsRow slots order
  pub others : (id : NodeId) → In id free ↔ ((id.0 < length slots) × (is_used slots id ≡ false))
  pub once : Once free

-- the node that stands at a spot, or that none does
abbrev pub IsChild : Slots → List NodeId → Spot → Option NodeId → Type 0
IsChild slots order spot (Some c) = In c order × (spot_at slots c ≡ spot)
IsChild slots order spot None = (c : NodeId) → In c order → spot_at slots c ≡ spot → ⊥

-- the lowest node on the way to a key, and how many of the key's RDNs it has
pub record IsDown (prefix : Name) (slots : Slots) (order : List NodeId) (key : Key) (node : NodeId)
    (count : ℕ) : Type 0 where
  pub used : is_used slots node ≡ true
  pub on_way : key_of (name_at prefix slots node) ≡ take count key
  pub below : length prefix ≤ count
  pub within : count ≤ length key
  pub ends : count < length key → (c : NodeId) → In c order → spot_at slots c ≡ (node.0, slice_index_or key count []) →
      ⊥

-- the place in order at which the node of the next RDN of a key would go, where there is a next one
pub record GoesNext (slots : Slots) (order : List NodeId) (key : Key) (node : NodeId) (count at : ℕ) : Type 0 where
  pub place : count < length key → IsPlace (spots_of slots order) (node.0, slice_index_or key count []) (Err at)

-- the node just above a key that isn't there, and the place in order at which the key's node would go
pub record IsSite (prefix : Name) (slots : Slots) (order : List NodeId) (name : Name) (above : NodeId)
    (at : ℕ) : Type 0 where
  pub used : is_used slots above ≡ true
  pub is_above : key_of (name_at prefix slots above) ≡ parent (key_of name)
  pub long : 0 < length name
  pub place : IsPlace (spots_of slots order) (above.0, slice_index_or (key_of name) (length name - 1) []) (Err at)

-- another node stands above whose RDN has this key
pub record IsOther (slots : Slots) (order : List NodeId) (node : NodeId) (rdn : KeyRdn) : Type 0 where
  pub other : NodeId
  pub there : In other order
  pub differs : other ≡ node → ⊥
  pub spot : spot_at slots other ≡ ((parent_at slots node).0, rdn)

-- the place of a node, and the place where it goes with another RDN once it's taken from there
pub record IsMove (slots : Slots) (order : List NodeId) (node : NodeId) (rdn : KeyRdn) (from to : ℕ) : Type 0 where
  pub within : from < length order
  pub is_at : (d : NodeId) → slice_index_or order from d ≡ node
  pub goes : IsPlace (spots_of slots (remove order from)) ((parent_at slots node).0, rdn) (Err to)

-- there is room for each number in both lists
pub record HasRoom (a : Inside) : Type 0 where
  pub all : vec_len a.order + vec_len a.free + 1 ≡ vec_len a.slots
  pub for_order : vec_len a.slots ≤ vec_capacity a.order
  pub for_free : vec_len a.slots ≤ vec_capacity a.free

abbrev pub view : Inside → Nodes
view a = record { nodes = nodes_of a.prefix a.slots.items a.order.items; spare = vec_len a.free }

abbrev pub Invariant : Inside → Type 0
Invariant a = IsKept a.slots.items a.order.items a.free.items × HasRoom a
