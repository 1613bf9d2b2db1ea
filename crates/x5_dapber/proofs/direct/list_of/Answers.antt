-- The components are the argument.
use Rattle.x5_ops.specs.RequestViews.{controls_view}
use Rattle.x5_dapber.proofs.ArgumentsSpelled.{list_read}
use Rattle.x5_dapber.proofs.direct.list_of.Goals as goal

pub returns : goal.returns
returns c =
    list_read (controls_view c.in_ok-controls.controls) c.in_ok-object.object c.in_ok-content.content.now
    c.args.octets.now c.in_ok-object.last.now c.in_ok-content.ensures c.in_ok-object.ensures c.in_ok-controls.ensures
