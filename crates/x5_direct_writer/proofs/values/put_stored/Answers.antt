-- The type and the values are the components.
use Rattle.std.proofs.Common.{ap, map, refl, sym, ◌∙◌}
use Rattle.x5_direct_writer.proofs.Parts.{has_stored}
use Rattle.x5_model.specs.Values as values
use Rattle.x5_model_messages.specs.Terms as terms
use Rattle.x5_model_messages.specs.Shadows as shadows
use Rattle.x5_model_messages.specs.Terms.{node_of}
use Rattle.x5_model_typed.specs.Named as named
use Rattle.x5_direct_writer.proofs.Putting.{by_error, first_fails, second_fails, two_put}
use Rattle.x5_direct_writer.proofs.values.put_stored.Goals as goal

pub returns-in_err-put_stored_value_set : goal.returns-in_err-put_stored_value_set
returns-in_err-put_stored_value_set c =
    by_error named.Attribute (shadows.stored_node c.args.attribute.now) c.args.out.now c.put_stored_value_set.new.out c.in_err-put_stored_value_set.field-0.0 c.from_residual.result
    c.from_residual.ensures.1
    (second_fails named.Attribute named.AnyOid named.Values (terms.type_node (values.Known c.attribute.inside.kind)) (node_of (map (λ v. terms.value_node v.value) c.as_slice.result.now)) (shadows.stored_node c.args.attribute.now) c.in_err-put_stored_value_set.field-0.0 c.args.out.now
    c.put_stored_value_set.new.out c.put_stored_value_set.new.out (has_stored c.args.attribute.now c.attribute.inside.kind c.as_slice.result.now (λ i. (c.attribute.view_is i).kind) (c.as_slice.ensures ∙ (λ i. (c.attribute.view_is i).values))) c.in_err-put_stored_value_set.ensures)

pub returns-in_err-put_known_type : goal.returns-in_err-put_known_type
returns-in_err-put_known_type c =
    by_error named.Attribute (shadows.stored_node c.args.attribute.now) c.args.out.now c.put_known_type.new.out c.in_err-put_known_type.field-0.0
    c.from_residual-in_err-put_known_type.result c.from_residual-in_err-put_known_type.ensures.1
    (first_fails named.Attribute named.AnyOid named.Values (terms.type_node (values.Known c.attribute.inside.kind)) (node_of (map (λ v. terms.value_node v.value) c.as_slice.result.now)) (shadows.stored_node c.args.attribute.now) c.in_err-put_known_type.field-0.0 c.put_stored_value_set.new.out
    c.put_known_type.new.out c.args.out.now c.put_known_type.new.out (has_stored c.args.attribute.now c.attribute.inside.kind c.as_slice.result.now (λ i. (c.attribute.view_is i).kind) (c.as_slice.ensures ∙ (λ i. (c.attribute.view_is i).values))) c.in_err-put_known_type.ensures)

pub returns : goal.returns
returns c =
    two_put c.len-behind.result named.Attribute named.AnyOid named.Values (terms.type_node (values.Known c.attribute.inside.kind)) (node_of (map (λ v. terms.value_node v.value) c.as_slice.result.now)) (shadows.stored_node c.args.attribute.now) c.args.out.now c.put_stored_value_set.new.out
    c.put_known_type.new.out c.enclose.new.out (has_stored c.args.attribute.now c.attribute.inside.kind c.as_slice.result.now (λ i. (c.attribute.view_is i).kind) (c.as_slice.ensures ∙ (λ i. (c.attribute.view_is i).values))) c.len-behind.ensures c.in_ok-enclose.ensures c.in_ok-put_stored_value_set.ensures
    c.in_ok-put_known_type.ensures
