-- The members of the second component are references.
use Rattle.std.specs.Prelude.{All}
use Rattle.x5_model_typed.specs.Nodes as nodes
use Rattle.x5_dapber.specs.Sayable.{IsCount}
use Rattle.x5_dapber.proofs.Members.{members_are, two_are}
use Rattle.x5_dapreply.specs.Sayable.{IsReference}
use Rattle.x5_dapreply.proofs.read_replies.outcome_in.Goals as goal

pub references_in-requires : goal.references_in-requires
references_in-requires c =
    let both = two_are (λ limit unexplored. IsCount limit × All IsReference (nodes.parts unexplored)) c.parts.result.now _
    c.limit-item.result c.unexplored-item.result c.parts.ensures c.limit-item.is c.unexplored-item.is c.requires in
    members_are IsReference c.parts-2.result.now _ c.parts-2.ensures both.1.1
