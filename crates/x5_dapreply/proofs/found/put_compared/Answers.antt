-- The verdict and the source stand in the element.
use Rattle.std.specs.declared.option.Option.TheVariants.{Some}
use Rattle.x5_model_messages.specs.Replies as replies
use Rattle.x5_model_octets.specs.Elements.{canonical}
use Rattle.x5_model_octets.specs.Elements as elements
use Rattle.x5_model_typed.specs.Named as named
use Rattle.x5_direct_writer.proofs.Putting.{enclosed_put}
use Rattle.x5_direct_writer.proofs.Rows.{one_alone}
use Rattle.x5_direct_writer.proofs.Wholes.{first_fault, inner_fault, last_put, passed_on}
use Rattle.x5_dapreply.specs.ReplyViews.{told_source}
use Rattle.x5_dapreply.proofs.Founding.{at, judged, judged_is, judged_lost, judged_put, of}
use Rattle.x5_dapreply.proofs.found.put_compared.Goals as goal

pub returns-in_err-put_tagged_source : goal.returns-in_err-put_tagged_source
returns-in_err-put_tagged_source c =
    let b = replies.source_node (told_source c.args.source.now) in
    let n = replies.answer_node (replies.Match c.args.matched c.args.copy (told_source c.args.source.now)) in
    let source = at 2 named.Source b in
    let old = c.args.out.now in
    let new = c.put_tagged_source.new.out in
    let fault = c.in_err-put_tagged_source.field-0.0 in
    passed_on canonical (of (named.Outcome named.Compare) n) old new fault c.from_residual.result
    c.from_residual.ensures.1
    (inner_fault 0 17 (of (named.Outcome named.Compare) n) (judged c.args.matched c.args.copy (one_alone source)) fault
    old new old new (judged_is c.args.matched c.args.copy b)
    (judged_lost c.args.matched c.args.copy (one_alone source) fault old new old new
    (first_fault source (Some elements.Nil) fault old new old new c.in_err-put_tagged_source.ensures)))

pub returns : goal.returns
returns c =
    let b = replies.source_node (told_source c.args.source.now) in
    let n = replies.answer_node (replies.Match c.args.matched c.args.copy (told_source c.args.source.now)) in
    let source = at 2 named.Source b in
    let old = c.args.out.now in
    let early = c.put_tagged_source.new.out in
    let late = c.put_verdict.new.out in
    enclosed_put 0 17 c.len-behind.result (of (named.Outcome named.Compare) n)
    (judged c.args.matched c.args.copy (one_alone source)) old late c.enclose.new.out
    (judged_is c.args.matched c.args.copy b) c.len-behind.ensures c.in_ok-enclose.ensures
    (judged_put c.args.matched c.args.copy (one_alone source) old early late
    (last_put source old early c.in_ok-put_tagged_source.ensures) c.in_ok-put_verdict.ensures)
