-- The items stand in their element, which stands in its tag.
use Rattle.std.proofs.Common.{List, map, ap}
use Rattle.x5_model_messages.specs.Replies as replies
use Rattle.x5_model_messages.specs.Terms.{node_of}
use Rattle.x5_model_typed.specs.Named as named
use Rattle.x5_model_typed.specs.Nodes.{Node}
use Rattle.x5_types.specs.FormView.{nowhere}
use Rattle.x5_direct_writer.proofs.Naming.{in_two}
use Rattle.x5_dapber.proofs.Asked.{of}
use Rattle.x5_dapreply.specs.ReplyViews.{told_item}
use Rattle.x5_dspber.proofs.ChainedWritten.{members_lost, members_put}
use Rattle.x5_dspber.proofs.write_chained.put_trace.Goals as goal

pub returns-in_err-put_items : goal.returns-in_err-put_items
returns-in_err-put_items c =
    let items = c.args.items.now in
    members_lost 2 named.Trace named.TraceItem (map (λ i. replies.item_node (told_item i)) items)
    (node_of (map replies.item_node (map told_item items))) c.in_err-put_items.field-0.0
    c.args.out.now c.put_items.new.out c.args.out.now c.put_items.new.out c.from_residual.result
    (ap (λ (ns : List Node). of named.Trace (node_of ns)) (in_two replies.item_node told_item items))
    c.from_residual.ensures.1 (c.in_err-put_items.ensures nowhere)

pub returns : goal.returns
returns c =
    let items = c.args.items.now in
    members_put 2 c.len-behind.result named.Trace named.TraceItem (map (λ i. replies.item_node (told_item i)) items)
    (node_of (map replies.item_node (map told_item items))) c.args.out.now c.put_items.new.out c.enclose.new.out
    c.enclose-2.new.out
    (ap (λ (ns : List Node). of named.Trace (node_of ns)) (in_two replies.item_node told_item items))
    c.len-behind.ensures c.in_ok-enclose.ensures c.in_ok-enclose-2.ensures (c.in_ok-put_items.ensures nowhere)
