-- The name, the origin and the attributes are the components.
use Rattle.std.proofs.Common.{map}
use Rattle.x5_model_messages.specs.Replies as replies
use Rattle.x5_model_messages.specs.Terms as terms
use Rattle.x5_model_messages.specs.Terms.{node_of}
use Rattle.x5_model_typed.specs.Named as named
use Rattle.x5_ops.specs.AnswerViews.{info_view, shown_view}
use Rattle.x5_direct_writer.proofs.Infos.{attributes_fail, has_info, info_put, name_fails}
use Rattle.x5_direct_writer.proofs.Putting.{by_error}
use Rattle.x5_direct_writer.proofs.entries.put_info.Goals as goal

pub returns-in_err-put_attribute_set : goal.returns-in_err-put_attribute_set
returns-in_err-put_attribute_set c =
    by_error named.EntryInfo (replies.info_node (info_view c.args.info.now)) c.args.out.now c.put_attribute_set.new.out
    c.in_err-put_attribute_set.field-0.0 c.from_residual.result c.from_residual.ensures.1
    (attributes_fail c.args.info.now.copy (terms.name_node c.args.info.now.name)
    (node_of (map (λ a. replies.shown_node (shown_view a)) c.as_slice.result.now)) (replies.info_node (info_view c.args.info.now))
    c.in_err-put_attribute_set.field-0.0 c.args.out.now c.put_attribute_set.new.out c.put_attribute_set.new.out
    (has_info c.args.info.now c.as_slice.result.now c.as_slice.ensures) c.in_err-put_attribute_set.ensures)

pub returns-in_err-put_name : goal.returns-in_err-put_name
returns-in_err-put_name c =
    by_error named.EntryInfo (replies.info_node (info_view c.args.info.now)) c.args.out.now c.put_name.new.out c.in_err-put_name.field-0.0
    c.from_residual-in_err-put_name.result c.from_residual-in_err-put_name.ensures.1
    (name_fails c.args.info.now.copy (terms.name_node c.args.info.now.name)
    (node_of (map (λ a. replies.shown_node (shown_view a)) c.as_slice.result.now)) (replies.info_node (info_view c.args.info.now))
    c.in_err-put_name.field-0.0 c.put_origin.new.out c.put_name.new.out c.args.out.now c.put_name.new.out
    (has_info c.args.info.now c.as_slice.result.now c.as_slice.ensures) c.in_err-put_name.ensures)

pub returns : goal.returns
returns c =
    info_put c.len-behind.result c.args.info.now.copy (terms.name_node c.args.info.now.name)
    (node_of (map (λ a. replies.shown_node (shown_view a)) c.as_slice.result.now)) (replies.info_node (info_view c.args.info.now)) c.args.out.now
    c.put_attribute_set.new.out c.put_origin.new.out c.put_name.new.out c.enclose.new.out
    (has_info c.args.info.now c.as_slice.result.now c.as_slice.ensures) c.len-behind.ensures c.in_ok-enclose.ensures
    c.in_ok-put_attribute_set.ensures c.in_ok-put_origin.ensures c.in_ok-put_name.ensures
