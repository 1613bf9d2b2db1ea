-- The members of a vector are the parts of its view.
use Rattle.std.proofs.Common.{map, ap, sym, ◌∙◌, List}
use Rattle.x5_model_typed.specs.Nodes as nodes
use Rattle.x5_types.specs.declared.node.Node.{Node}
use Rattle.x5_types.specs.NodeView.{node_view}
use Rattle.x5_types.proofs.Nodes.{parts_are}
use Rattle.x5_types.proofs.node.Node.parts.Goals as goal

pub returns-in-Many : goal.returns-in-Many
returns-in-Many c =
    ap (λ (l : List Node). map node_view l) c.deref.ensures.value
    ∙ sym (ap (λ (n : Node). nodes.parts (node_view n)) c.in-Many.is ∙ parts_are c.in-Many.members)
