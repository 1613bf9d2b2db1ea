-- Filters as the nodes of messages, and what such nodes say (X.511, section 7.8).
use Rattle.std.specs.Prelude.{ℕ, ◌==◌, if◌then◌else◌, List, [], ◌∷◌, map}
use Rattle.x5_model.specs.Values.{Unknown, TextValue}
use Rattle.x5_model.specs.Assertions.{substring_item_of}
use Rattle.x5_model.specs.Filters.{PiecePlace, Initial, Any, Last, Piece, SubstringItem, Item, Equality, Substrings}
use Rattle.x5_model.specs.Filters.{GreaterOrEqual, LessOrEqual, Present, Approximate, Filter, Filters, Is, And, Or, Not}
use Rattle.x5_model.specs.Filters.{Nil, More}
use Rattle.x5_model_typed.specs.Nodes as nodes
use Rattle.x5_model_typed.specs.Nodes.{Node, Nodes, Chosen, Many, parts}
use Rattle.x5_model_typed.specs.Rules.{value_in}
use Rattle.x5_model_messages.specs.Terms.{node_of, type_node, value_node, assertion_node, type_in, assertion_in}

-- ---- what is written

abbrev pub place_tag : PiecePlace → ℕ
place_tag Initial = 0
place_tag Any = 1
place_tag Last = 2

abbrev pub piece_node : Piece → Node
piece_node p = Chosen (place_tag p.place) (value_node p.value)

abbrev pub substrings_node : SubstringItem → Node
substrings_node s = node_of (type_node s.kind ∷ node_of (map piece_node s.pieces) ∷ [])

abbrev pub item_node : Item → Node
item_node (Equality a) = Chosen 0 (assertion_node a)
item_node (Substrings s) = Chosen 1 (substrings_node s)
item_node (GreaterOrEqual a) = Chosen 2 (assertion_node a)
item_node (LessOrEqual a) = Chosen 3 (assertion_node a)
item_node (Present type) = Chosen 4 (type_node type)
item_node (Approximate a) = Chosen 5 (assertion_node a)

abbrev mutual
  pub filter_node : Filter → Node
  filter_node (Is i) = Chosen 0 (item_node i)
  filter_node (And fs) = Chosen 1 (Many (filter_nodes fs))
  filter_node (Or fs) = Chosen 2 (Many (filter_nodes fs))
  filter_node (Not f) = Chosen 3 (filter_node f)

  pub filter_nodes : Filters → Nodes
  filter_nodes Nil = nodes.Nil
  filter_nodes (More f fs) = nodes.More (filter_node f) (filter_nodes fs)

-- ---- what nodes say; a node of another type says nothing, for which something stands

abbrev pub place_of_tag : ℕ → PiecePlace
place_of_tag tag = if tag == 0 then Initial else if tag == 1 then Any else Last

abbrev pub piece_in : Node → Piece
piece_in (Chosen tag n) = record { place = place_of_tag tag; value = value_in n }
piece_in n = record { place = Any; value = TextValue [] }

abbrev pub substrings_in : Node → SubstringItem
substrings_in s = by (parts s)
  where
    by : List Node → SubstringItem
    by (type ∷ pieces ∷ []) = substring_item_of (type_in type) (map piece_in (parts pieces))
    by other = substring_item_of (Unknown []) []

abbrev pub item_in : Node → Item
item_in (Chosen tag n) =
    if tag == 0 then Equality (assertion_in n)
    else if tag == 1 then Substrings (substrings_in n)
    else if tag == 2 then GreaterOrEqual (assertion_in n)
    else if tag == 3 then LessOrEqual (assertion_in n)
    else if tag == 4 then Present (type_in n)
    else Approximate (assertion_in n)
item_in n = Present (Unknown [])

abbrev mutual
  pub filter_in : Node → Filter
  filter_in (Chosen tag n) =
      if tag == 0 then Is (item_in n)
      else if tag == 1 then And (filters_in n)
      else if tag == 2 then Or (filters_in n)
      else Not (filter_in n)
  filter_in n = And Nil

  pub filters_in : Node → Filters
  filters_in (Many ns) = filters_of ns
  filters_in n = Nil

  pub filters_of : Nodes → Filters
  filters_of nodes.Nil = Nil
  filters_of (nodes.More n ns) = More (filter_in n) (filters_of ns)
