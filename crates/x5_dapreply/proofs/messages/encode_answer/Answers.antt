-- The octets that are written are those of the answer, and they spell it.
use Rattle.std.proofs.Common.{ℕ, ◌<◌, ◌^◌, List, length, sym, subst, arith}
use Rattle.x5_model_messages.specs.Replies.{reply_node, to_user}
use Rattle.x5_model_typed.specs.Named as named
use Rattle.x5_model_typed.specs.Typed.{Spells}
use Rattle.x5_ops.specs.JournalViews.{code_view}
use Rattle.x5_types.specs.FormView.{table}
use Rattle.x5_dapreply.specs.ReplyViews.{told_reply}
use Rattle.x5_dapreply.proofs.ReplyRooms.{answer_spelled}
use Rattle.x5_dapreply.proofs.messages.encode_answer.Goals as goal

pub returns-clause-spelled : goal.returns-clause-spelled
returns-clause-spelled c = λ fit.
    let r = told_reply (code_view c.args.operation) c.args.reply.now in
    let n = reply_node to_user c.args.id r in
    let items = c.in_ok-write_reply.field-0.items in
    let short : length items < 2 ^ 64 =
    omega (arith, c.in_ok-write_reply.field-0.ok.0, c.in_ok-write_reply.field-0.small) in
    subst (λ (os : List ℕ). Spells table named.DapAnswer os n) (sym c.new.ensures)
    (answer_spelled c.args.id r items fit c.in_ok-write_reply.ensures short)
