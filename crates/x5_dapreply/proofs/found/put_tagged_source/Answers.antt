-- The source stands in its tag.
use Rattle.std.proofs.Common.{refl}
use Rattle.x5_model_messages.specs.Replies as replies
use Rattle.x5_model_octets.specs.Elements.{canonical}
use Rattle.x5_model_typed.specs.Named as named
use Rattle.x5_types.specs.FormView.{nowhere}
use Rattle.x5_dapreply.specs.ReplyViews.{told_source}
use Rattle.x5_direct_writer.proofs.Wholes.{passed_on}
use Rattle.x5_dapreply.proofs.Founding.{at, part_fails, part_put}
use Rattle.x5_dapreply.proofs.found.put_tagged_source.Goals as goal

pub returns-in_err-put_source : goal.returns-in_err-put_source
returns-in_err-put_source c =
    let n = replies.source_node (told_source c.args.source.now) in
    let old = c.args.out.now in
    let new = c.put_source.new.out in
    let fault = c.in_err-put_source.field-0.0 in
    passed_on canonical (at c.args.tag named.Source n) old new fault c.from_residual.result c.from_residual.ensures.1
    (part_fails c.args.tag named.Source n n fault old new old new refl (c.in_err-put_source.ensures nowhere))

pub returns : goal.returns
returns c =
    let n = replies.source_node (told_source c.args.source.now) in
    part_put c.args.tag c.len-behind.result named.Source n n c.args.out.now c.put_source.new.out c.enclose.new.out refl
    c.len-behind.ensures c.in_ok-enclose.ensures (c.in_ok-put_source.ensures nowhere)
