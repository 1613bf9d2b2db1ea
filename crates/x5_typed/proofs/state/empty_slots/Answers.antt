-- A SET has an empty slot for each component.
use Rattle.std.proofs.Common.{◌≡◌, List, map, subst, Vec, Global, IfOk}
use Rattle.std.specs.declared.option.Option.{Option}
use Rattle.x5_model_typed.specs.Nodes as nodes
use Rattle.x5_types.specs.declared.node.Node.{Node}
use Rattle.x5_typed.proofs.Lists.{no_nodes}
use Rattle.x5_typed.proofs.state.empty_slots.Goals as goal
use Rattle.x5_types.specs.NodeView.{option_view}

pub returns-in-Set : goal.returns-in-Set
returns-in-Set c = λ w.
    rw c.in-Set.is (subst (λ (y : List (Option nodes.Node)). IfOk c.empty.result
    (λ (slots : Vec (Option Node) Global). map option_view slots.items ≡ y)) (no_nodes c.in-Set.components.now)
    c.empty.ensures)
