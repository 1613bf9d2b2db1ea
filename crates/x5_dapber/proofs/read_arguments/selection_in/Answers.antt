-- The one component is vacant, or has types as its members.
use Rattle.std.specs.Prelude.{All}
use Rattle.x5_model_typed.specs.Nodes as nodes
use Rattle.x5_dapber.specs.Sayable.{IsType}
use Rattle.x5_dapber.proofs.Members.{members_are, one_is}
use Rattle.x5_dapber.proofs.read_arguments.selection_in.Goals as goal

pub types_in-requires : goal.types_in-requires
types_in-requires c =
    let one = one_is (λ types. All IsType (nodes.parts types)) c.parts.result.now _ c.kinds-item.result c.parts.ensures
    c.kinds-item.is c.requires in
    members_are IsType c.parts-else-is_vacant.result.now _ c.parts-else-is_vacant.ensures one.1
