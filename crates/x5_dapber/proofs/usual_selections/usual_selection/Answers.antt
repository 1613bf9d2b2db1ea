-- The members of the one component are the types.
use Rattle.std.proofs.Common.{map}
use Rattle.x5_syntax.specs.TypeView.{type_view}
use Rattle.x5_dapber.proofs.UsualSelections.{selection_read}
use Rattle.x5_dapber.proofs.usual_selections.usual_selection.Goals as goal

pub returns : goal.returns
returns c =
    selection_read (map type_view c.in_ok-known_types_in.field-0) c.in_ok-component.component.now c.in_ok-list.list.now
    c.in_ok-members.members.now c.args.octets.now c.in_ok-component.ensures c.in_ok-list.ensures c.in_ok-members.ensures
    c.in_ok-known_types_in.ensures
