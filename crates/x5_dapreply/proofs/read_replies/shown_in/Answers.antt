-- The members of the second component are values.
use Rattle.std.specs.Prelude.{All}
use Rattle.x5_model_typed.specs.Nodes as nodes
use Rattle.x5_dapber.specs.Sayable.{IsType, IsValue}
use Rattle.x5_dapber.proofs.Members.{members_are, two_are}
use Rattle.x5_dapreply.proofs.read_replies.shown_in.Goals as goal

pub values_in-requires : goal.values_in-requires
values_in-requires c =
    let both = two_are (λ type values. IsType type × All IsValue (nodes.parts values)) c.parts.result.now _
    c.kind-item.result c.values-item.result c.parts.ensures c.kind-item.is c.values-item.is c.requires in
    members_are IsValue c.parts-2.result.now _ c.parts-2.ensures both.1.1
