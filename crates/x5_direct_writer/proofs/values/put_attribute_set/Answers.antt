-- The attributes are the members.
use Rattle.std.proofs.Common.{ap, map, sym, ◌∙◌}
use Rattle.std.proofs.Common.{refl}
use Rattle.x5_ops.specs.AnswerViews.{shown_view}
use Rattle.x5_model_messages.specs.Replies as replies
use Rattle.x5_model_messages.specs.Terms.{node_of}
use Rattle.x5_model_typed.specs.Named as named
use Rattle.x5_direct_writer.proofs.Putting.{all_fail, all_put, by_error}
use Rattle.x5_direct_writer.proofs.values.put_attribute_set.Goals as goal

pub returns-in_err-put_attributes : goal.returns-in_err-put_attributes
returns-in_err-put_attributes c =
    by_error named.Attributes (node_of (map (λ a. replies.shown_node (shown_view a)) c.args.attributes.now)) c.args.out.now c.put_attributes.new.out c.in_err-put_attributes.field-0.0 c.from_residual.result
    c.from_residual.ensures.1
    (all_fail 17 named.Attributes named.Attribute (map (λ a. replies.shown_node (shown_view a)) c.args.attributes.now) (node_of (map (λ a. replies.shown_node (shown_view a)) c.args.attributes.now)) c.in_err-put_attributes.field-0.0 c.args.out.now
    c.put_attributes.new.out c.put_attributes.new.out (λ w. refl) c.in_err-put_attributes.ensures)

pub returns : goal.returns
returns c =
    all_put 17 c.len-behind.result named.Attributes named.Attribute (map (λ a. replies.shown_node (shown_view a)) c.args.attributes.now) (node_of (map (λ a. replies.shown_node (shown_view a)) c.args.attributes.now)) c.args.out.now c.put_attributes.new.out c.enclose.new.out
    (λ w. refl) c.len-behind.ensures c.in_ok-enclose.ensures c.in_ok-put_attributes.ensures
