-- The members of the third component are attributes.
use Rattle.std.specs.Prelude.{All}
use Rattle.x5_model_typed.specs.Nodes as nodes
use Rattle.x5_dapber.specs.Sayable.{IsAttribute}
use Rattle.x5_dapber.proofs.Members.{members_are, triple_is}
use Rattle.x5_dapreply.proofs.read_replies.info_in.Goals as goal

pub all_shown_in-requires : goal.all_shown_in-requires
all_shown_in-requires c =
    let three = triple_is (λ name from_entry attributes. All IsAttribute (nodes.parts attributes)) c.parts.result.now _
    c.name-item.result c.from_entry-item.result c.attributes-item.result c.parts.ensures c.name-item.is c.from_entry-item.is
    c.attributes-item.is c.requires in
    members_are IsAttribute c.parts-2.result.now _ c.parts-2.ensures three.are
