-- Each source is a member.
use Rattle.std.proofs.Common.{map}
use Rattle.std.proofs.Common.{refl}
use Rattle.x5_dapreply.specs.ReplyViews.{told_source}
use Rattle.x5_model_messages.specs.Replies as replies
use Rattle.x5_model_messages.specs.Terms.{node_of}
use Rattle.x5_model_typed.specs.Named as named
use Rattle.x5_direct_writer.proofs.Putting.{all_fail, all_put, by_error}
use Rattle.x5_dapreply.proofs.sources.put_source_list.Goals as goal

pub returns-in_err-put_each_source : goal.returns-in_err-put_each_source
returns-in_err-put_each_source c =
    by_error named.Sources (node_of (map (λ e. replies.source_node (told_source e)) c.args.sources.now)) c.args.out.now c.put_each_source.new.out c.in_err-put_each_source.field-0.0 c.from_residual.result
    c.from_residual.ensures.1
    (all_fail 16 named.Sources named.Source (map (λ e. replies.source_node (told_source e)) c.args.sources.now) (node_of (map (λ e. replies.source_node (told_source e)) c.args.sources.now)) c.in_err-put_each_source.field-0.0 c.args.out.now
    c.put_each_source.new.out c.put_each_source.new.out (λ w. refl) c.in_err-put_each_source.ensures)

pub returns : goal.returns
returns c =
    all_put 16 c.len-behind.result named.Sources named.Source (map (λ e. replies.source_node (told_source e)) c.args.sources.now) (node_of (map (λ e. replies.source_node (told_source e)) c.args.sources.now)) c.args.out.now c.put_each_source.new.out c.enclose.new.out
    (λ w. refl) c.len-behind.ensures c.in_ok-enclose.ensures c.in_ok-put_each_source.ensures
