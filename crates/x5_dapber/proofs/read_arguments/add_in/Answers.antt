-- The members of the second component are attributes.
use Rattle.std.specs.Prelude.{All}
use Rattle.x5_model_typed.specs.Nodes as nodes
use Rattle.x5_dapber.specs.Sayable.{IsAttribute}
use Rattle.x5_dapber.proofs.Members.{members_are, three_are}
use Rattle.x5_dapber.proofs.read_arguments.add_in.Goals as goal

pub attributes_in-requires : goal.attributes_in-requires
attributes_in-requires c =
    let three = three_are (λ name attributes controls. All IsAttribute (nodes.parts attributes)) c.args.parts.now
    c.object-item.result c.attributes-item.result c.object-item.is c.attributes-item.is c.requires in
    members_are IsAttribute c.parts.result.now _ c.parts.ensures three.are
