-- The components are the argument.
use Rattle.x5_ops.specs.RequestViews.{controls_view}
use Rattle.x5_model.specs.Assertions.{assertion_of}
use Rattle.x5_syntax.specs.TypeView.{type_view}
use Rattle.x5_syntax.specs.ValueView.{value_view}
use Rattle.x5_dapber.proofs.ArgumentsSpelled.{compare_read}
use Rattle.x5_dapber.proofs.direct.compare_of.Goals as goal

pub returns-in-Ok : goal.returns-in-Ok
returns-in-Ok c =
    compare_read (controls_view c.in-Ok.controls) c.in_ok-object.object
    (assertion_of (type_view c.in_ok-kind.kind) (value_view c.in_ok-kind.value)) c.in_ok-content.content.now
    c.args.octets.now c.in_ok-object.behind.now c.in_ok-kind.last.now
    c.in_ok-content.ensures c.in_ok-object.ensures c.in_ok-kind.ensures c.in-Ok.ensures
