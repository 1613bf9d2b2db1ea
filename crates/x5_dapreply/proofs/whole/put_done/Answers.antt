-- The id and the result stand in the element.
use Rattle.std.proofs.Common.{[], ◌∷◌}
use Rattle.x5_model_messages.specs.Replies as replies
use Rattle.x5_model_messages.specs.Terms.{node_of}
use Rattle.x5_model_typed.specs.Named as named
use Rattle.x5_model_typed.specs.Nodes.{Chosen, whole}
use Rattle.x5_ops.specs.JournalViews.{code_view}
use Rattle.x5_types.specs.FormView.{nowhere}
use Rattle.x5_direct_writer.proofs.Rows.{front_lost, last_lost, one_alone, pair_put}
use Rattle.x5_dapreply.specs.Found.{answer_form, count}
use Rattle.x5_dapreply.specs.ReplyViews.{told_answer}
use Rattle.x5_dapreply.proofs.Founding.{done_is, of}
use Rattle.x5_dapreply.proofs.whole.put_done.Goals as goal

pub returns-in_err-put_coded : goal.returns-in_err-put_coded
returns-in_err-put_coded c p =
    let x = whole c.args.id in
    let y = node_of (whole (code_view c.args.operation) ∷ replies.answer_node (told_answer c.args.answer.now) ∷ []) in
    let old = c.args.out.now in
    let new = c.put_coded.new.out in
    last_lost 2 2 (of (answer_form p) (Chosen 2 (node_of (x ∷ y ∷ [])))) (of count x) (of named.DapResult y)
    c.in_err-put_coded.field-0.0 old new old new c.from_residual.result (done_is p x y) c.from_residual.ensures.1
    c.in_err-put_coded.ensures

pub returns-in_err-put_count : goal.returns-in_err-put_count
returns-in_err-put_count c p =
    let x = whole c.args.id in
    let y = node_of (whole (code_view c.args.operation) ∷ replies.answer_node (told_answer c.args.answer.now) ∷ []) in
    let new = c.put_count.new.out in
    front_lost 2 2 (of (answer_form p) (Chosen 2 (node_of (x ∷ y ∷ [])))) (of count x)
    (one_alone (of named.DapResult y)) c.in_err-put_count.field-0.0 c.put_coded.new.out new c.args.out.now new
    c.from_residual-in_err-put_count.result (done_is p x y) c.from_residual-in_err-put_count.ensures.1
    (c.in_err-put_count.ensures nowhere)

pub returns : goal.returns
returns c p =
    let x = whole c.args.id in
    let y = node_of (whole (code_view c.args.operation) ∷ replies.answer_node (told_answer c.args.answer.now) ∷ []) in
    pair_put 2 2 c.len-behind.result (of (answer_form p) (Chosen 2 (node_of (x ∷ y ∷ [])))) (of count x)
    (of named.DapResult y) c.args.out.now c.put_coded.new.out c.put_count.new.out c.enclose.new.out (done_is p x y)
    c.len-behind.ensures c.in_ok-enclose.ensures c.in_ok-put_coded.ensures (c.in_ok-put_count.ensures nowhere)
