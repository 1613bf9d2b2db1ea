-- The entries of one context that a list or search asks for (X.511, section 10): those in the subset below the base,
-- and of a search those for which its filter is true.
use Rattle.std.specs.Prelude.{ℕ, Bool, false, ◌&&◌, ◌↔◌, List, map}
use Rattle.std.specs.List.{filter}
use Rattle.x5_model.specs.Words.{in_option}
use Rattle.x5_model.specs.Members.{In, Once}
use Rattle.x5_model.specs.Keys.{Key}
use Rattle.x5_model.specs.Filters.{Filter}
use Rattle.x5_model.specs.Truth.{selects_entry}
use Rattle.x5_model.specs.Requests.{Subset}
use Rattle.x5_model_tree.specs.Ask.{in_subset}
use Rattle.x5_dse.specs.declared.node.NodeId.{NodeId}
use Rattle.x5_dse.specs.Linked.{Node, id_of, node_key, node_with}

abbrev pub asked_nodes : List Node → Subset → Key → List Node
asked_nodes nodes subset base = filter (λ n. in_subset subset base (node_key n)) nodes

abbrev pub is_found : Subset → Key → Filter → Node → Bool
is_found subset base f n = in_subset subset base (node_key n) && selects_entry f n.named.entry

abbrev pub found_nodes : List Node → Subset → Key → Filter → List Node
found_nodes nodes subset base f = filter (is_found subset base f) nodes

-- the same of a node that is known by its number
abbrev pub is_selected : List Node → Filter → NodeId → Bool
is_selected nodes f id = in_option false (λ n. selects_entry f n.named.entry) (node_with nodes id)

abbrev pub is_found_at : List Node → Subset → Key → Filter → NodeId → Bool
is_found_at nodes subset base f id = in_option false (is_found subset base f) (node_with nodes id)

abbrev pub as_id : ℕ → NodeId
as_id number = record { 0 = number }

-- these are the found ones, each once; their order is of no account
pub record AreFound (nodes : List Node) (subset : Subset) (base : Key) (f : Filter) (ids : List NodeId) : Type 0 where
  pub exact : (id : NodeId) → In id ids ↔ In id (map id_of (found_nodes nodes subset base f))
  pub once : Once ids
