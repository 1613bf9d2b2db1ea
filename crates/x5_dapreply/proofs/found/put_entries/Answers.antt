-- The entries stand in their tag.
use Rattle.std.proofs.Common.{List, map, ap, sym}
use Rattle.x5_model_messages.specs.Replies as replies
use Rattle.x5_model_messages.specs.Terms.{node_of}
use Rattle.x5_model_octets.specs.Elements.{canonical}
use Rattle.x5_model_typed.specs.Named as named
use Rattle.x5_model_typed.specs.Nodes as nodes
use Rattle.x5_types.specs.FormView.{nowhere}
use Rattle.x5_ops.specs.AnswerViews.{info_view}
use Rattle.x5_direct_writer.proofs.Naming.{in_two}
use Rattle.x5_direct_writer.proofs.Wholes.{passed_on}
use Rattle.x5_dapreply.proofs.Founding.{at, part_fails, part_put}
use Rattle.x5_dapreply.proofs.found.put_entries.Goals as goal

pub returns-in_err-put_info_list : goal.returns-in_err-put_info_list
returns-in_err-put_info_list c =
    let items = c.args.entries.now in
    let n = node_of (map replies.info_node (map info_view items)) in
    let m = node_of (map (λ x. replies.info_node (info_view x)) items) in
    let old = c.args.out.now in
    let new = c.put_info_list.new.out in
    let fault = c.in_err-put_info_list.field-0.0 in
    passed_on canonical (at 0 named.EntryInfos n) old new fault c.from_residual.result c.from_residual.ensures.1
    (part_fails 0 named.EntryInfos n m fault old new old new
    (ap (λ (ns : List nodes.Node). node_of ns) (sym (in_two replies.info_node info_view items)))
    (c.in_err-put_info_list.ensures nowhere))

pub returns : goal.returns
returns c =
    let items = c.args.entries.now in
    let n = node_of (map replies.info_node (map info_view items)) in
    let m = node_of (map (λ x. replies.info_node (info_view x)) items) in
    part_put 0 c.len-behind.result named.EntryInfos n m c.args.out.now c.put_info_list.new.out c.enclose.new.out
    (ap (λ (ns : List nodes.Node). node_of ns) (sym (in_two replies.info_node info_view items)))
    c.len-behind.ensures c.in_ok-enclose.ensures (c.in_ok-put_info_list.ensures nowhere)
