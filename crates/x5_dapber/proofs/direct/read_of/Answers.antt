-- The components are the argument.
use Rattle.x5_ops.specs.RequestViews.{controls_view, selection_view}
use Rattle.x5_dapber.proofs.ArgumentsSpelled.{read_read}
use Rattle.x5_dapber.proofs.direct.read_of.Goals as goal

pub returns-in-Ok : goal.returns-in-Ok
returns-in-Ok c =
    read_read (controls_view c.in-Ok.controls) c.in_ok-object.object (selection_view c.in_ok-selection.selection)
    c.in_ok-content.content.now c.args.octets.now c.in_ok-object.behind.now c.in_ok-selection.last.now
    c.in_ok-content.ensures c.in_ok-object.ensures c.in_ok-selection.ensures c.in-Ok.ensures
