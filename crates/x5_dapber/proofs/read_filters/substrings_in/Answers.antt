-- The parts of the second component are parts of a value.
use Rattle.std.specs.Prelude.{All}
use Rattle.x5_model_typed.specs.Nodes as nodes
use Rattle.x5_dapber.specs.Sayable.{IsType, IsPiece}
use Rattle.x5_dapber.proofs.Members.{members_are, two_are}
use Rattle.x5_dapber.proofs.read_filters.substrings_in.Goals as goal

pub pieces_in-requires : goal.pieces_in-requires
pieces_in-requires c =
    let both = two_are (λ type pieces. IsType type × All IsPiece (nodes.parts pieces)) c.parts.result.now _
    c.kind-item.result c.pieces-item.result c.parts.ensures c.kind-item.is c.pieces-item.is c.requires in
    members_are IsPiece c.parts-2.result.now _ c.parts-2.ensures both.1.1
