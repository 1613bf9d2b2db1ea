-- What is read is what was written.
use Rattle.std.proofs.Common.{ℕ, List, sym, subst}
use Rattle.std.proofs.lemmas.Result.{IfOk-weaker}
use Rattle.x5_dapreply.specs.ReplyViews.{told_reply}
use Rattle.x5_model_messages.specs.Replies.{reply_node, to_user}
use Rattle.x5_model_typed.specs.Named.{DapAnswer}
use Rattle.x5_model_typed.specs.Typed.{Spells}
use Rattle.x5_ops.specs.JournalViews.{code_view}
use Rattle.x5_types.specs.FormView.{table}
use Rattle.x5_wire.proofs.Seen.{reply_seen}
use Rattle.x5_wire.proofs.answers.carried_answer.Goals as goal

pub read-requires : goal.read-requires
read-requires c =
    let r = told_reply (code_view c.args.operation) c.args.reply.now in record {
      spelled = (
        c.args.id,
        r,
        c.requires,
        subst (λ (os : List ℕ). Spells table DapAnswer os (reply_node to_user c.args.id r)) (sym c.as_slice.ensures)
            c.in_ok-octets.ensures,
      );
    }

pub returns-clause-told : goal.returns-clause-told
returns-clause-told c =
    let r = told_reply (code_view c.args.operation) c.args.reply.now in
    c.read.ensures.read c.args.id r c.requires
    (subst (λ (os : List ℕ). Spells table DapAnswer os (reply_node to_user c.args.id r)) (sym c.as_slice.ensures)
    c.in_ok-octets.ensures)

pub returns-clause-seen : goal.returns-clause-seen
returns-clause-seen c =
    IfOk-weaker c.read.result _ _
    (λ back e names. reply_seen names (code_view c.args.operation) back c.args.reply.now e) (returns-clause-told c)
