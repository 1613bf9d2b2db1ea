-- The sources stand in their tag.
use Rattle.std.proofs.Common.{List, map, ap, sym}
use Rattle.x5_model_messages.specs.Replies as replies
use Rattle.x5_model_messages.specs.Terms.{node_of}
use Rattle.x5_model_octets.specs.Elements.{canonical}
use Rattle.x5_model_typed.specs.Named as named
use Rattle.x5_model_typed.specs.Nodes as nodes
use Rattle.x5_types.specs.FormView.{nowhere}
use Rattle.x5_dapreply.specs.ReplyViews.{told_source}
use Rattle.x5_direct_writer.proofs.Naming.{in_two}
use Rattle.x5_direct_writer.proofs.Wholes.{passed_on}
use Rattle.x5_dapreply.proofs.Founding.{at, part_fails, part_put}
use Rattle.x5_dapreply.proofs.found.put_sources.Goals as goal

pub returns-in_err-put_source_list : goal.returns-in_err-put_source_list
returns-in_err-put_source_list c =
    let items = c.args.sources.now in
    let n = node_of (map replies.source_node (map told_source items)) in
    let m = node_of (map (λ x. replies.source_node (told_source x)) items) in
    let old = c.args.out.now in
    let new = c.put_source_list.new.out in
    let fault = c.in_err-put_source_list.field-0.0 in
    passed_on canonical (at 1 named.Sources n) old new fault c.from_residual.result c.from_residual.ensures.1
    (part_fails 1 named.Sources n m fault old new old new
    (ap (λ (ns : List nodes.Node). node_of ns) (sym (in_two replies.source_node told_source items)))
    (c.in_err-put_source_list.ensures nowhere))

pub returns : goal.returns
returns c =
    let items = c.args.sources.now in
    let n = node_of (map replies.source_node (map told_source items)) in
    let m = node_of (map (λ x. replies.source_node (told_source x)) items) in
    part_put 1 c.len-behind.result named.Sources n m c.args.out.now c.put_source_list.new.out c.enclose.new.out
    (ap (λ (ns : List nodes.Node). node_of ns) (sym (in_two replies.source_node told_source items)))
    c.len-behind.ensures c.in_ok-enclose.ensures (c.in_ok-put_source_list.ensures nowhere)
