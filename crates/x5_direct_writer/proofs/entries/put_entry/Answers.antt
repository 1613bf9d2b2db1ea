-- The name and the attributes are the components.
use Rattle.std.proofs.Common.{ap, map, refl, sym, ◌∙◌}
use Rattle.x5_direct_writer.proofs.Parts.{has_entry}
use Rattle.x5_model_messages.specs.Terms as terms
use Rattle.x5_model_messages.specs.Shadows as shadows
use Rattle.x5_model_messages.specs.Terms.{node_of}
use Rattle.x5_model_typed.specs.Named as named
use Rattle.x5_direct_writer.proofs.Putting.{by_error, first_fails, second_fails, two_put}
use Rattle.x5_direct_writer.proofs.entries.put_entry.Goals as goal

pub returns-in_err-put_stored_set : goal.returns-in_err-put_stored_set
returns-in_err-put_stored_set c =
    by_error named.Entry (shadows.entry_node c.args.entry.now) c.args.out.now c.put_stored_set.new.out c.in_err-put_stored_set.field-0.0 c.from_residual.result
    c.from_residual.ensures.1
    (second_fails named.Entry named.Name named.Attributes (terms.name_node c.entry.inside.name) (node_of (map (shadows.stored_node) c.attributes.result.now)) (shadows.entry_node c.args.entry.now) c.in_err-put_stored_set.field-0.0 c.args.out.now
    c.put_stored_set.new.out c.put_stored_set.new.out (has_entry c.args.entry.now c.entry.inside.name c.attributes.result.now (λ i. (c.entry.view_is i).name) (c.attributes.ensures.same ∙ (λ i. (c.entry.view_is i).entry.attributes))) c.in_err-put_stored_set.ensures)

pub returns-in_err-put_name : goal.returns-in_err-put_name
returns-in_err-put_name c =
    by_error named.Entry (shadows.entry_node c.args.entry.now) c.args.out.now c.put_name.new.out c.in_err-put_name.field-0.0
    c.from_residual-in_err-put_name.result c.from_residual-in_err-put_name.ensures.1
    (first_fails named.Entry named.Name named.Attributes (terms.name_node c.entry.inside.name) (node_of (map (shadows.stored_node) c.attributes.result.now)) (shadows.entry_node c.args.entry.now) c.in_err-put_name.field-0.0 c.put_stored_set.new.out
    c.put_name.new.out c.args.out.now c.put_name.new.out (has_entry c.args.entry.now c.entry.inside.name c.attributes.result.now (λ i. (c.entry.view_is i).name) (c.attributes.ensures.same ∙ (λ i. (c.entry.view_is i).entry.attributes))) c.in_err-put_name.ensures)

pub returns : goal.returns
returns c =
    two_put c.len-behind.result named.Entry named.Name named.Attributes (terms.name_node c.entry.inside.name) (node_of (map (shadows.stored_node) c.attributes.result.now)) (shadows.entry_node c.args.entry.now) c.args.out.now c.put_stored_set.new.out
    c.put_name.new.out c.enclose.new.out (has_entry c.args.entry.now c.entry.inside.name c.attributes.result.now (λ i. (c.entry.view_is i).name) (c.attributes.ensures.same ∙ (λ i. (c.entry.view_is i).entry.attributes))) c.len-behind.ensures c.in_ok-enclose.ensures c.in_ok-put_stored_set.ensures
    c.in_ok-put_name.ensures
