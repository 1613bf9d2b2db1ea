-- The members of the second component are changes.
use Rattle.std.specs.Prelude.{All}
use Rattle.x5_model_typed.specs.Nodes as nodes
use Rattle.x5_dapber.specs.Sayable.{IsChange}
use Rattle.x5_dapber.proofs.Members.{members_are, three_are}
use Rattle.x5_dapber.proofs.read_arguments.modify_in.Goals as goal

pub changes_in-requires : goal.changes_in-requires
changes_in-requires c =
    let three = three_are (λ name changes controls. All IsChange (nodes.parts changes)) c.args.parts.now
    c.object-item.result c.changes-item.result c.object-item.is c.changes-item.is c.requires in
    members_are IsChange c.parts.result.now _ c.parts.ensures three.are
