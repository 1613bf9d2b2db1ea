-- What is said of each entry is a member.
use Rattle.std.proofs.Common.{map}
use Rattle.std.proofs.Common.{refl}
use Rattle.x5_ops.specs.AnswerViews.{sub_view}
use Rattle.x5_model_messages.specs.Replies as replies
use Rattle.x5_model_messages.specs.Terms.{node_of}
use Rattle.x5_model_typed.specs.Named as named
use Rattle.x5_direct_writer.proofs.Putting.{all_fail, all_put, by_error}
use Rattle.x5_direct_writer.proofs.answers.put_sub_list.Goals as goal

pub returns-in_err-put_subs : goal.returns-in_err-put_subs
returns-in_err-put_subs c =
    by_error named.Subs (node_of (map (λ e. replies.sub_node (sub_view e)) c.args.subs.now)) c.args.out.now c.put_subs.new.out c.in_err-put_subs.field-0.0 c.from_residual.result
    c.from_residual.ensures.1
    (all_fail 16 named.Subs named.Sub (map (λ e. replies.sub_node (sub_view e)) c.args.subs.now) (node_of (map (λ e. replies.sub_node (sub_view e)) c.args.subs.now)) c.in_err-put_subs.field-0.0 c.args.out.now
    c.put_subs.new.out c.put_subs.new.out (λ w. refl) c.in_err-put_subs.ensures)

pub returns : goal.returns
returns c =
    all_put 16 c.len-behind.result named.Subs named.Sub (map (λ e. replies.sub_node (sub_view e)) c.args.subs.now) (node_of (map (λ e. replies.sub_node (sub_view e)) c.args.subs.now)) c.args.out.now c.put_subs.new.out c.enclose.new.out
    (λ w. refl) c.len-behind.ensures c.in_ok-enclose.ensures c.in_ok-put_subs.ensures
