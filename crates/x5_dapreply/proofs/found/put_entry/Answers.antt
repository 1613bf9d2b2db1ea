-- The entry stands in its tag.
use Rattle.std.proofs.Common.{refl}
use Rattle.x5_model_messages.specs.Replies as replies
use Rattle.x5_model_octets.specs.Elements.{canonical}
use Rattle.x5_model_typed.specs.Named as named
use Rattle.x5_types.specs.FormView.{nowhere}
use Rattle.x5_ops.specs.AnswerViews.{info_view}
use Rattle.x5_direct_writer.proofs.Wholes.{passed_on}
use Rattle.x5_dapreply.proofs.Founding.{at, part_fails, part_put}
use Rattle.x5_dapreply.proofs.found.put_entry.Goals as goal

pub returns-in_err-put_info : goal.returns-in_err-put_info
returns-in_err-put_info c =
    let n = replies.info_node (info_view c.args.entry.now) in
    let old = c.args.out.now in
    let new = c.put_info.new.out in
    let fault = c.in_err-put_info.field-0.0 in
    passed_on canonical (at 0 named.EntryInfo n) old new fault c.from_residual.result c.from_residual.ensures.1
    (part_fails 0 named.EntryInfo n n fault old new old new refl (c.in_err-put_info.ensures nowhere))

pub returns : goal.returns
returns c =
    let n = replies.info_node (info_view c.args.entry.now) in
    part_put 0 c.len-behind.result named.EntryInfo n n c.args.out.now c.put_info.new.out c.enclose.new.out refl
    c.len-behind.ensures c.in_ok-enclose.ensures (c.in_ok-put_info.ensures nowhere)
