-- The code and the result stand in the element.
use Rattle.std.proofs.Common.{[], ◌∷◌, ◌∙◌, ℕ, List, ap, subst, sym}
use Rattle.x5_model_messages.specs.Replies as replies
use Rattle.x5_model_messages.specs.Terms.{node_of}
use Rattle.x5_model_typed.specs.Named as named
use Rattle.x5_model_typed.specs.Nodes.{whole}
use Rattle.x5_ops.specs.JournalViews.{code_view}
use Rattle.x5_direct_writer.proofs.Rows.{IsPut, last_lost, pair_put}
use Rattle.x5_dapreply.specs.Found.{form_of}
use Rattle.x5_dapreply.specs.ReplyViews.{told_answer}
use Rattle.x5_dapreply.proofs.Founding.{coded_is, digit, digit_put, of}
use Rattle.x5_dapreply.proofs.whole.put_coded.Goals as goal

pub returns-in_err-put_answer : goal.returns-in_err-put_answer
returns-in_err-put_answer c =
    let op = c.args.operation in
    let s = replies.answer_node (told_answer c.args.answer.now) in
    let old = c.args.out.now in
    let new = c.put_answer.new.out in
    last_lost 0 16 (of named.DapResult (node_of (whole (code_view op) ∷ s ∷ []))) (digit (code_view op))
    (of (named.Outcome (form_of op)) s) c.in_err-put_answer.field-0.0 old new old new c.from_residual.result
    (coded_is op s) c.from_residual.ensures.1 c.in_err-put_answer.ensures

pub returns : goal.returns
returns c =
    let op = c.args.operation in
    let s = replies.answer_node (told_answer c.args.answer.now) in
    let early = c.put_answer.new.out in
    let late = c.put_all.new.self in
    pair_put 0 16 c.len-behind.result (of named.DapResult (node_of (whole (code_view op) ∷ s ∷ []))) (digit (code_view op))
    (of (named.Outcome (form_of op)) s) c.args.out.now early late c.enclose.new.out (coded_is op s)
    c.len-behind.ensures c.in_ok-enclose.ensures c.in_ok-put_answer.ensures
    (subst (λ (l : List ℕ). IsPut (digit (code_view op)) early l)
    (sym (c.in_ok-put_all.ensures ∙ ap (λ (k : ℕ). 2 ∷ 1 ∷ k ∷ early) c.code.ensures)) (digit_put (code_view op) early))
