-- The type and the values are the components.
use Rattle.std.proofs.Common.{ap, map, refl, sym, ◌∙◌}
use Rattle.x5_syntax.specs.TypeView.{type_view}
use Rattle.x5_direct_writer.proofs.Parts.{has_shown}
use Rattle.x5_ops.specs.AnswerViews.{shown_view}
use Rattle.x5_syntax.specs.ValueView.{value_view}
use Rattle.x5_model_messages.specs.Terms as terms
use Rattle.x5_model_messages.specs.Replies as replies
use Rattle.x5_model_messages.specs.Terms.{node_of}
use Rattle.x5_model_typed.specs.Named as named
use Rattle.x5_direct_writer.proofs.Putting.{by_error, first_fails, second_fails, two_put}
use Rattle.x5_direct_writer.proofs.values.put_attribute.Goals as goal

pub returns-in_err-put_value_set : goal.returns-in_err-put_value_set
returns-in_err-put_value_set c =
    by_error named.Attribute (replies.shown_node (shown_view c.args.attribute.now)) c.args.out.now c.put_value_set.new.out c.in_err-put_value_set.field-0.0 c.from_residual.result
    c.from_residual.ensures.1
    (second_fails named.Attribute named.AnyOid named.Values (terms.type_node (type_view c.args.attribute.now.kind)) (node_of (map (λ v. terms.value_node (value_view v)) c.as_slice.result.now)) (replies.shown_node (shown_view c.args.attribute.now)) c.in_err-put_value_set.field-0.0 c.args.out.now
    c.put_value_set.new.out c.put_value_set.new.out (has_shown c.args.attribute.now c.as_slice.result.now c.as_slice.ensures) c.in_err-put_value_set.ensures)

pub returns-in_err-put_type : goal.returns-in_err-put_type
returns-in_err-put_type c =
    by_error named.Attribute (replies.shown_node (shown_view c.args.attribute.now)) c.args.out.now c.put_type.new.out c.in_err-put_type.field-0.0
    c.from_residual-in_err-put_type.result c.from_residual-in_err-put_type.ensures.1
    (first_fails named.Attribute named.AnyOid named.Values (terms.type_node (type_view c.args.attribute.now.kind)) (node_of (map (λ v. terms.value_node (value_view v)) c.as_slice.result.now)) (replies.shown_node (shown_view c.args.attribute.now)) c.in_err-put_type.field-0.0 c.put_value_set.new.out
    c.put_type.new.out c.args.out.now c.put_type.new.out (has_shown c.args.attribute.now c.as_slice.result.now c.as_slice.ensures) c.in_err-put_type.ensures)

pub returns : goal.returns
returns c =
    two_put c.len-behind.result named.Attribute named.AnyOid named.Values (terms.type_node (type_view c.args.attribute.now.kind)) (node_of (map (λ v. terms.value_node (value_view v)) c.as_slice.result.now)) (replies.shown_node (shown_view c.args.attribute.now)) c.args.out.now c.put_value_set.new.out
    c.put_type.new.out c.enclose.new.out (has_shown c.args.attribute.now c.as_slice.result.now c.as_slice.ensures) c.len-behind.ensures c.in_ok-enclose.ensures c.in_ok-put_value_set.ensures
    c.in_ok-put_type.ensures
