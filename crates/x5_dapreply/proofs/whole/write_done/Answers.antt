-- The octets are those that were put.
use Rattle.x5_model_messages.specs.Replies as replies
use Rattle.x5_ops.specs.JournalViews.{code_view}
use Rattle.x5_dapreply.specs.Found.{answer_form}
use Rattle.x5_dapreply.specs.ReplyViews.{told_answer}
use Rattle.x5_dapreply.proofs.Founding.{all_written, none_written}
use Rattle.x5_dapreply.proofs.whole.write_done.Goals as goal

pub returns-in_err-put_done : goal.returns-in_err-put_done
returns-in_err-put_done c p =
    let n = replies.result_node c.args.id (code_view c.args.operation) (replies.answer_node (told_answer c.args.answer.now)) in
    none_written (answer_form p) n c.in_err-put_done.field-0.0 c.new-out.result c.put_done.new.out c.from_residual.result
    (c.in_err-put_done.ensures p) c.from_residual.ensures.1

pub returns : goal.returns
returns c p =
    let n = replies.result_node c.args.id (code_view c.args.operation) (replies.answer_node (told_answer c.args.answer.now)) in
    all_written (answer_form p) n c.new-out.result c.put_done.new.out c.into_octets.result.items
    (c.in_ok-put_done.ensures p) c.new-out.ensures c.into_octets.ensures
