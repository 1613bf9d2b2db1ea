-- An empty vector has no parts.
use Rattle.std.proofs.Common.{List, map, ap, sym, ◌∙◌}
use Rattle.x5_model_typed.specs.Nodes as nodes
use Rattle.x5_types.specs.declared.node.Node.{Node}
use Rattle.x5_types.proofs.Nodes.{many_of_items}
use Rattle.x5_types.proofs.given.nothing.Goals as goal
use Rattle.x5_types.specs.NodeView.{node_view}

pub returns : goal.returns
returns c = sym (many_of_items c.new.result) ∙ ap (λ (l : List Node). nodes.Many (nodes.row (map node_view l)))
    c.new.ensures.items
