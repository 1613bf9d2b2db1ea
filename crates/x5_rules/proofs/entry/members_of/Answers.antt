-- The parts of a node that has some.
use Rattle.std.proofs.Common.{ap, sym, ◌∙◌}
use Rattle.x5_model_typed.specs.Nodes as nodes
use Rattle.x5_types.specs.declared.node.Node.{Node}
use Rattle.x5_types.specs.NodeView.{node_view}
use Rattle.x5_types.proofs.Nodes.{parts_are}
use Rattle.x5_rules.proofs.entry.members_of.Goals as goal

pub returns-in-Many : goal.returns-in-Many
returns-in-Many c = sym (parts_are c.in-Many.members) ∙ sym (ap (λ (n : Node). nodes.parts (node_view n)) c.in-Many.is)
