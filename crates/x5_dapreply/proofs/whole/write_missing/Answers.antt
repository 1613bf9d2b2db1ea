-- The octets are those that were put.
use Rattle.x5_model_messages.specs.Replies as replies
use Rattle.x5_dapreply.specs.Found.{answer_form}
use Rattle.x5_dapreply.proofs.Founding.{all_written, none_written}
use Rattle.x5_dapreply.proofs.whole.write_missing.Goals as goal

pub returns-in_err-put_missing : goal.returns-in_err-put_missing
returns-in_err-put_missing c p =
    let n = replies.reply_node 0 c.args.id (replies.NoSuchObject c.args.matched.now) in
    none_written (answer_form p) n c.in_err-put_missing.field-0.0 c.new-out.result c.put_missing.new.out c.from_residual.result
    (c.in_err-put_missing.ensures p) c.from_residual.ensures.1

pub returns : goal.returns
returns c p =
    let n = replies.reply_node 0 c.args.id (replies.NoSuchObject c.args.matched.now) in
    all_written (answer_form p) n c.new-out.result c.put_missing.new.out c.into_octets.result.items
    (c.in_ok-put_missing.ensures p) c.new-out.ensures c.into_octets.ensures
