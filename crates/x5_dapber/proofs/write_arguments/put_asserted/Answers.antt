-- The type and the value are the components.
use Rattle.std.proofs.Common.{refl}
use Rattle.x5_model.specs.Assertions.{assertion_of}
use Rattle.x5_model_messages.specs.Terms.{assertion_node, type_node, value_node}
use Rattle.x5_model_typed.specs.Named as named
use Rattle.x5_syntax.specs.TypeView.{type_view}
use Rattle.x5_syntax.specs.ValueView.{value_view}
use Rattle.x5_direct_writer.proofs.Putting.{by_error, first_fails, second_fails, two_put}
use Rattle.x5_dapber.proofs.write_arguments.put_asserted.Goals as goal

pub returns-in_err-put_value : goal.returns-in_err-put_value
returns-in_err-put_value c =
    let k = type_view c.args.kind.now in
    let v = value_view c.args.value.now in
    by_error named.Assertion (assertion_node (assertion_of k v)) c.args.out.now c.put_value.new.out
    c.in_err-put_value.field-0.0 c.from_residual.result c.from_residual.ensures.1
    (second_fails named.Assertion named.AnyOid named.Value (type_node k) (value_node v) (assertion_node (assertion_of k v))
    c.in_err-put_value.field-0.0 c.args.out.now c.put_value.new.out c.put_value.new.out (λ w. refl)
    c.in_err-put_value.ensures)

pub returns-in_err-put_type : goal.returns-in_err-put_type
returns-in_err-put_type c =
    let k = type_view c.args.kind.now in
    let v = value_view c.args.value.now in
    by_error named.Assertion (assertion_node (assertion_of k v)) c.args.out.now c.put_type.new.out
    c.in_err-put_type.field-0.0 c.from_residual-in_err-put_type.result c.from_residual-in_err-put_type.ensures.1
    (first_fails named.Assertion named.AnyOid named.Value (type_node k) (value_node v) (assertion_node (assertion_of k v))
    c.in_err-put_type.field-0.0 c.put_value.new.out c.put_type.new.out c.args.out.now c.put_type.new.out (λ w. refl)
    c.in_err-put_type.ensures)

pub returns : goal.returns
returns c =
    let k = type_view c.args.kind.now in
    let v = value_view c.args.value.now in
    two_put c.len-behind.result named.Assertion named.AnyOid named.Value (type_node k) (value_node v)
    (assertion_node (assertion_of k v)) c.args.out.now c.put_value.new.out c.put_type.new.out c.enclose.new.out
    (λ w. refl) c.len-behind.ensures c.in_ok-enclose.ensures c.in_ok-put_value.ensures c.in_ok-put_type.ensures
