-- What updates make of the nodes of a tree, and when they are refused (X.511, section 11).
use Rattle.std.specs.Prelude.{◌≡◌, ◌+◌, Bool, true, false, not, ◌&&◌, if◌then◌else◌, List, [], ◌∷◌, ◌++◌, length, map}
use Rattle.std.specs.List.{filter}
use Rattle.std.specs.declared.option.Option.TheVariants.{Some}
use Rattle.x5_model.specs.Words.{insert_sorted, sorted}
use Rattle.x5_model.specs.Keys.{Key, same_key, is_prefix, parent}
use Rattle.x5_model.specs.Values.{Name, Rdn, key_of, last_rdn, name_above}
use Rattle.x5_model.specs.Entries.{Entry, Named}
use Rattle.x5_model_tree.specs.Tree.{key_at, sorted_entries, is_there, has_below}
use Rattle.x5_model_tree.specs.Apply.{replace_at, respelled}
use Rattle.x5_dse.specs.declared.node.NodeId.{NodeId}
use Rattle.x5_dse.specs.declared.node.DseFault.{DseFault}
use Rattle.x5_dse.specs.declared.node.DseFault.TheVariants.{Exists, NoParent, NotLeaf}
use Rattle.x5_dse.specs.Linked.{Node, Nodes, entries_of, node_key, node_at, node_with, node_below, has_id, is_live}

-- the entry below another; its name is spelled as that one's, and then by its own RDN
abbrev pub entry_below : Node → Rdn → Entry → Named
entry_below above rdn entry = record { name = above.named.name ++ rdn ∷ []; entry = entry }

-- An entry is added whose parent is there, at a node that wasn't there; all others stay at theirs (X.511, section
-- 11.1).
pub record Inserted (old : Nodes) (name : Name) (entry : Entry) (id : NodeId) (after : Nodes) : Type 0 where
  pub above : Node
  pub below : node_at old.nodes (parent (key_of name)) ≡ Some above
  pub absent : is_there (entries_of old.nodes) (key_of name) ≡ false
  pub fresh : is_live old.nodes id ≡ false
  pub nodes : after.nodes ≡ insert_sorted node_below
      (record { id = id; named = entry_below above (last_rdn name) entry }) old.nodes
  pub entries : entries_of after.nodes ≡ sorted_entries (entries_of old.nodes ++ entry_below above (last_rdn name) entry
      ∷ [])
  pub spare : after.spare + 1 ≡ old.spare

-- why it isn't, the first reason that applies
abbrev pub NotInserted : List Node → Key → DseFault → Type 0
NotInserted nodes key Exists = is_there (entries_of nodes) key ≡ true
NotInserted nodes key NoParent =
    (is_there (entries_of nodes) key ≡ false) × (is_there (entries_of nodes) (parent key) ≡ false)
NotInserted nodes key NotLeaf = ⊥

-- A leaf is removed; all others stay at theirs (X.511, section 11.2), and its node is spare.
pub record Removed (old : Nodes) (id : NodeId) (entry : Entry) (after : Nodes) : Type 0 where
  pub node : Node
  pub there : node_with old.nodes id ≡ Some node
  pub entry_is : node.named.entry ≡ entry
  pub leaf : has_below (entries_of old.nodes) (node_key node) ≡ false
  pub nodes : after.nodes ≡ filter (λ n. not (has_id id n)) old.nodes
  pub entries : entries_of after.nodes ≡ filter (λ e. not (same_key (key_at e) (node_key node))) (entries_of old.nodes)
  pub spare : after.spare ≡ old.spare + 1

-- something stands below it
pub record NotRemoved (nodes : List Node) (id : NodeId) (fault : DseFault) : Type 0 where
  pub node : Node
  pub there : node_with nodes id ≡ Some node
  pub below : has_below (entries_of nodes) (node_key node) ≡ true
  pub is : fault ≡ NotLeaf

-- A node's entry is replaced; its name and all others stay (X.511, section 11.3).
abbrev pub with_entry : NodeId → Entry → Node → Node
with_entry id entry n = if has_id id n then record n { named = record { name = n.named.name; entry = entry } } else n

pub record Replaced (old : Nodes) (id : NodeId) (entry before : Entry) (after : Nodes) : Type 0 where
  pub node : Node
  pub there : node_with old.nodes id ≡ Some node
  pub before_is : node.named.entry ≡ before
  pub nodes : after.nodes ≡ map (with_entry id entry) old.nodes
  pub entries : entries_of after.nodes ≡ replace_at (node_key node) (record { name = node.named.name; entry = entry })
      (entries_of old.nodes)
  pub spare : after.spare ≡ old.spare

-- A node's entry gets another RDN, and so a place among its siblings of its own; what stands below goes with it (X.511,
-- section
-- 11.4). Where only the spelling changes, its key stays.
abbrev pub new_key : Named → Rdn → Key
new_key e rdn = key_of (name_above e.name ++ rdn ∷ [])

abbrev pub is_taken : List Named → Named → Rdn → Bool
is_taken entries e rdn = not (same_key (new_key e rdn) (key_at e)) && is_there entries (new_key e rdn)

abbrev pub moved_entry : Named → Rdn → Entry → Named → Named
moved_entry x rdn entry e =
    if same_key (key_at e) (key_at x) then record {
      name = respelled (length (name_above x.name)) rdn e.name;
      entry = entry;
    }
    else (if is_prefix (key_at x) (key_at e) then record e { name = respelled (length (name_above x.name)) rdn e.name }
    else e)

abbrev pub moved : Named → Rdn → Entry → Node → Node
moved x rdn entry n = record { id = n.id; named = moved_entry x rdn entry n.named }

pub record Renamed (old : Nodes) (id : NodeId) (rdn : Rdn) (entry : Entry) (after : Nodes) : Type 0 where
  pub node : Node
  pub there : node_with old.nodes id ≡ Some node
  pub free : is_taken (entries_of old.nodes) node.named rdn ≡ false
  pub nodes : after.nodes ≡ sorted node_below (map (moved node.named rdn entry) old.nodes)
  pub entries : entries_of after.nodes ≡ sorted_entries (map (moved_entry node.named rdn entry) (entries_of old.nodes))
  pub spare : after.spare ≡ old.spare

-- another entry has the name
pub record NotRenamed (nodes : List Node) (id : NodeId) (rdn : Rdn) (fault : DseFault) : Type 0 where
  pub node : Node
  pub there : node_with nodes id ≡ Some node
  pub taken : is_taken (entries_of nodes) node.named rdn ≡ true
  pub is : fault ≡ Exists
