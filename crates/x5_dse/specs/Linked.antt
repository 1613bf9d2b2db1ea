-- The entries of one naming context as a list, and what makes such a list (X.501, section 7: the directory information
-- tree). The number of a node, by which an entry is known while it's there, is this project's own.
use Rattle.std.specs.Prelude.{◌≡◌, ℕ, ◌≤◌, Bool, true, false, not, ◌&&◌, ◌||◌, ◌==◌, IsTrue, List, length, map, ⊤}
use Rattle.std.specs.List.{find, filter, list_all, list_any}
use Rattle.std.specs.declared.option.Option.{Option}
use Rattle.std.specs.declared.option.Option.TheVariants.{None, Some}
use Rattle.x5_model.specs.Members.{In}
use Rattle.x5_model.specs.Words.{is_empty, first_of, in_option, ascending}
use Rattle.x5_model.specs.Keys.{Key, root, same_key, is_prefix, is_child, key_below, parent}
use Rattle.x5_model.specs.Values.{Name}
use Rattle.x5_model.specs.Entries.{Entry, Named}
use Rattle.x5_model_tree.specs.Tree.{key_at, named_below, is_there}
use Rattle.x5_dse.specs.declared.node.NodeId.{NodeId}

-- an entry with its name, and the number of its node
pub record Node : Type 0 where
  pub id : NodeId
  pub named : Named

-- what contracts see: the nodes in the order of their keys, and how many more can be added without memory
pub record Nodes : Type 0 where
  pub nodes : List Node
  pub spare : ℕ

abbrev pub named_of : Node → Named
named_of n = n.named

abbrev pub id_of : Node → NodeId
id_of n = n.id

abbrev pub entry_in : Node → Entry
entry_in n = n.named.entry

abbrev pub name_in : Node → Name
name_in n = n.named.name

-- how many RDNs its name has
abbrev pub length_in : Node → ℕ
length_in n = length n.named.name

-- the entries, in the order of their keys
abbrev pub entries_of : List Node → List Named
entries_of nodes = map named_of nodes

abbrev pub node_key : Node → Key
node_key n = key_at n.named

abbrev pub node_below : Node → Node → Bool
node_below a b = named_below a.named b.named

-- the node whose entry has the key
abbrev pub node_at : List Node → Key → Option Node
node_at nodes key = find (λ n. same_key (node_key n) key) nodes

-- the node of the number
abbrev pub has_id : NodeId → Node → Bool
has_id id n = n.id.0 == id.0

abbrev pub node_with : List Node → NodeId → Option Node
node_with nodes id = find (has_id id) nodes

abbrev pub is_live : List Node → NodeId → Bool
is_live nodes id = list_any (has_id id) nodes

-- the lowest node on the way to a name: of those whose names are prefixes of it the one with the longest
pub record IsLowest (nodes : List Node) (key : Key) (id : NodeId) : Type 0 where
  pub node : Node
  pub there : node_with nodes id ≡ Some node
  pub is_above : is_prefix (node_key node) key ≡ true
  pub longest : (other : Node) → In other nodes → is_prefix (node_key other) key ≡ true →
      length (node_key other) ≤ length (node_key node)

-- the first of the nodes, which holds the prefix of the context
abbrev pub prefix_of : List Node → Key
prefix_of nodes = in_option root node_key (first_of nodes)

abbrev pub is_first : List Node → NodeId → Bool
is_first nodes id = in_option false (has_id id) (first_of nodes)

-- The nodes are linked as the entries of a naming context: there is a first one, its prefix; the keys ascend, so each
-- entry is there once, stands before those below it, and those below one entry stand in the order of their keys; and of
-- each other entry the one just above is there.
abbrev pub is_placed : List Node → Node → Bool
is_placed nodes n = same_key (node_key n) (prefix_of nodes) || is_there (entries_of nodes) (parent (node_key n))

pub record IsLinked (nodes : List Node) : Type 0 where
  pub filled : IsTrue (not (is_empty nodes))
  pub in_order : IsTrue (ascending node_below nodes)
  pub above : IsTrue (list_all (is_placed nodes) nodes)

-- each node is the one of its number
abbrev pub AreNumbered : List Node → Type 0
AreNumbered nodes = (n : Node) → In n nodes → node_with nodes n.id ≡ Some n

-- the key of a node's entry
abbrev pub key_with : List Node → NodeId → Key
key_with nodes id = in_option root node_key (node_with nodes id)

-- what stands just below a node, in the order of keys
abbrev pub children_of : List Node → NodeId → List NodeId
children_of nodes id = map id_of (filter (λ n. is_child (key_with nodes id) (node_key n)) nodes)

-- a node and all that stands below it, in the order of keys
abbrev pub subtree_of : List Node → NodeId → List NodeId
subtree_of nodes id = map id_of (filter (λ n. is_prefix (key_with nodes id) (node_key n)) nodes)

-- those of them that don't stand before a node
abbrev pub walk_from : List Node → NodeId → NodeId → List NodeId
walk_from nodes from at =
    map id_of
    (filter (λ n. is_prefix (key_with nodes from) (node_key n)
    && not (key_below (node_key n) (key_with nodes at))) nodes)

-- a walk is at a node that is one of them, or at its end
pub record IsWithin (nodes : List Node) (from at : NodeId) : Type 0 where
  pub from_live : is_live nodes from ≡ true
  pub live : is_live nodes at ≡ true
  pub under : is_prefix (key_with nodes from) (key_with nodes at) ≡ true

abbrev pub IsAt : List Node → NodeId → Option NodeId → Type 0
IsAt nodes from None = ⊤
IsAt nodes from (Some at) = IsWithin nodes from at
