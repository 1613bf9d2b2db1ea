-- The next of the nodes at or below one, in the order of keys.
use Rattle.std.specs.Prelude.{◌≡◌, true, false}
use Rattle.std.specs.declared.option.Option.{Option}
use Rattle.std.specs.declared.option.Option.TheVariants.{None, Some}
use Rattle.x5_model.specs.Keys.{Key, is_prefix, key_below}
use Rattle.x5_model.specs.Values.{Name, key_of}
use Rattle.x5_dse.specs.declared.node.NodeId.{NodeId}
use Rattle.x5_dse.specs.Inside.{Slots, is_used, name_at}

abbrev pub key_at_node : Name → Slots → NodeId → Key
key_at_node prefix slots id = key_of (name_at prefix slots id)

-- it is at or below the first one, and behind the second; and none such stands between
pub record IsNext (prefix : Name) (slots : Slots) (from node next : NodeId) : Type 0 where
  pub used : is_used slots next ≡ true
  pub under : is_prefix (key_at_node prefix slots from) (key_at_node prefix slots next) ≡ true
  pub above : key_below (key_at_node prefix slots node) (key_at_node prefix slots next) ≡ true
  pub nearest : (m : NodeId) → is_used slots m ≡ true
      → is_prefix (key_at_node prefix slots from) (key_at_node prefix slots m) ≡ true
      → key_below (key_at_node prefix slots node) (key_at_node prefix slots m) ≡ true
      → key_below (key_at_node prefix slots m) (key_at_node prefix slots next) ≡ true → ⊥

-- none such stands behind it
abbrev pub IsLast : Name → Slots → NodeId → NodeId → Type 0
IsLast prefix slots from node =
    (m : NodeId) → is_used slots m ≡ true
    → is_prefix (key_at_node prefix slots from) (key_at_node prefix slots m) ≡ true
    → key_below (key_at_node prefix slots node) (key_at_node prefix slots m) ≡ true → ⊥

abbrev pub IsStep : Name → Slots → NodeId → NodeId → Option NodeId → Type 0
IsStep prefix slots from node None = IsLast prefix slots from node
IsStep prefix slots from node (Some next) = IsNext prefix slots from node next

-- at or below, whatever the prefix
abbrev pub IsUnder : Slots → NodeId → NodeId → Type 0
IsUnder slots from node =
    (prefix : Name) → is_prefix (key_at_node prefix slots from) (key_at_node prefix slots node) ≡ true

-- what stands behind a node stands behind another, and not below that
abbrev pub IsBehind : Name → Slots → NodeId → NodeId → Type 0
IsBehind prefix slots node at =
    (m : NodeId) → is_used slots m ≡ true
    → key_below (key_at_node prefix slots node) (key_at_node prefix slots m) ≡ true
    → (key_below (key_at_node prefix slots at) (key_at_node prefix slots m) ≡ true)
    × (is_prefix (key_at_node prefix slots at) (key_at_node prefix slots m) ≡ false)
