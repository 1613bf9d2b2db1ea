-- The members of the second component are values, and the type and the values are what is said.
use Rattle.std.specs.Prelude.{All}
use Rattle.x5_model_typed.specs.Nodes as nodes
use Rattle.x5_types.specs.NodeView.{node_view}
use Rattle.x5_dapber.specs.Sayable.{IsType, IsValue}
use Rattle.x5_dapber.proofs.AttributeParts.{attribute_said}
use Rattle.x5_dapber.proofs.Members.{members_are, two_are}
use Rattle.x5_dapber.proofs.read_attributes.attribute_in.Goals as goal

pub values_in-requires : goal.values_in-requires
values_in-requires c =
    let both = two_are (λ type values. IsType type × All IsValue (nodes.parts values)) c.parts.result.now _
    c.kind-item.result c.values-item.result c.parts.ensures c.kind-item.is c.values-item.is c.requires in
    members_are IsValue c.parts-2.result.now _ c.parts-2.ensures both.1.1

pub returns : goal.returns
returns c =
    let both = two_are (λ type values. IsType type × All IsValue (nodes.parts values)) c.parts.result.now _
    c.kind-item.result c.values-item.result c.parts.ensures c.kind-item.is c.values-item.is c.requires in
    attribute_said (record { kind = c.in_ok-kind.kind; values = c.from_vec.result }) (node_view c.args.node.now)
    (node_view c.kind-item.result) (node_view c.values-item.result) c.in_ok-values.values.items c.parts-2.result.now both.0
    c.in_ok-kind.ensures c.from_vec.ensures c.in_ok-values.ensures c.parts-2.ensures
