-- Members of a node as a list of what they stand for.
use Rattle.std.proofs.Common.{◌≡◌, refl, List, ap, sym, ◌∙◌, map, rules, Vec, Global}
use Rattle.x5_model_typed.specs.Nodes as nodes
use Rattle.x5_model_typed.proofs.Laws.{list_row}
use Rattle.x5_types.specs.declared.node.Node.{Node, Many, Row_of-Node, end_of-Node, more_of-Node, items-the_row-Node}
use Rattle.x5_types.specs.declared.node.Node.{the_lemmas}
use Rattle.x5_types.specs.NodeView.{node_view, row_view}

row_nodes : {m : _} (r : Row_of-Node m) → row_view r ≡ nodes.row (map node_view (items-the_row-Node m r))
row_nodes end_of-Node = refl
row_nodes (more_of-Node n rest) = ap (λ (t : nodes.Nodes). nodes.More (node_view n) t) (row_nodes rest)

pub many_of_items : (v : Vec Node Global) → nodes.Many (nodes.row (map node_view v.items)) ≡ node_view (Many v)
many_of_items v = search (rules, the_lemmas, row_nodes)

pub many_is : (v : Vec Node Global) (l : List Node) → v.items ≡ l
    → node_view (Many v) ≡ nodes.Many (nodes.row (map node_view l))
many_is v l e = sym (many_of_items v) ∙ ap (λ (k : List Node). nodes.Many (nodes.row (map node_view k))) e

pub parts_are : (v : Vec Node Global) → nodes.parts (node_view (Many v)) ≡ map node_view v.items
parts_are v = sym (ap nodes.parts (many_of_items v)) ∙ list_row (map node_view v.items)
