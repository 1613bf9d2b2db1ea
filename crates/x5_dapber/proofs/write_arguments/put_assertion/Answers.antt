-- What is asserted stands in its tag.
use Rattle.x5_model.specs.Assertions.{assertion_of}
use Rattle.x5_model_messages.specs.Terms.{assertion_node}
use Rattle.x5_model_typed.specs.Named as named
use Rattle.x5_syntax.specs.TypeView.{type_view}
use Rattle.x5_syntax.specs.ValueView.{value_view}
use Rattle.x5_types.specs.FormView.{nowhere}
use Rattle.x5_dapber.proofs.Components.{in_tag_lost, in_tag_put}
use Rattle.x5_dapber.proofs.write_arguments.put_assertion.Goals as goal

pub returns-in_err-put_asserted : goal.returns-in_err-put_asserted
returns-in_err-put_asserted c =
    in_tag_lost 1 named.Assertion (assertion_node (assertion_of (type_view c.args.kind.now) (value_view c.args.value.now)))
    c.in_err-put_asserted.field-0.0 c.args.out.now c.put_asserted.new.out c.args.out.now c.put_asserted.new.out
    c.from_residual.result c.from_residual.ensures.1 (c.in_err-put_asserted.ensures nowhere)

pub returns : goal.returns
returns c =
    in_tag_put 1 c.len-behind.result named.Assertion
    (assertion_node (assertion_of (type_view c.args.kind.now) (value_view c.args.value.now))) c.args.out.now
    c.put_asserted.new.out c.enclose.new.out c.len-behind.ensures c.in_ok-enclose.ensures
    (c.in_ok-put_asserted.ensures nowhere)
