-- What is written straight is so for either protocol.
use Rattle.std.proofs.Common.{◌≡◌, subst, sym}
use Rattle.x5_model_messages.specs.Replies.{reply_node}
use Rattle.x5_model_typed.specs.Written.{canonical_octets}
use Rattle.x5_ops.specs.JournalViews.{code_view}
use Rattle.x5_ops.specs.declared.answers.DirError.{DirError}
use Rattle.x5_ops.specs.declared.answers.DirError.TheVariants as errors
use Rattle.x5_ops.specs.declared.answers.Reply.{Reply}
use Rattle.x5_types.specs.FormView.{table}
use Rattle.x5_writer.specs.Puts.{Writes}
use Rattle.x5_dapreply.specs.Found.{answer_form, referral_of}
use Rattle.x5_dapreply.specs.ReplyViews.{told_error, told_reply}
use Rattle.x5_dapreply.proofs.whole.write_reply.Goals as goal

pub returns-in-Done : goal.returns-in-Done
returns-in-Done c =
    let p = c.args.protocol in
    let id = c.args.id in
    let code = code_view c.args.operation in
    subst (λ (m : Reply). Writes (canonical_octets table (answer_form p) (reply_node (referral_of p) id (told_reply code m)))
    c.write_done.result) (sym c.in-Done.is) (c.write_done.ensures p)

pub returns-in-Failed-Name : goal.returns-in-Failed-Name
returns-in-Failed-Name c =
    let p = c.args.protocol in
    let id = c.args.id in
    let code = code_view c.args.operation in
    let named : c.in-Failed-Name.field-0 ≡ errors.Name c.in-Failed-Name.matched =
    (rw c.in-Failed-Name.is at c.in-Failed-Name.field-0-is) in
    subst (λ (m : Reply). Writes (canonical_octets table (answer_form p) (reply_node (referral_of p) id (told_reply code m)))
    c.write_missing.result) (sym c.in-Failed-Name.is)
    (subst (λ (e : DirError). Writes (canonical_octets table (answer_form p)
    (reply_node (referral_of p) id (told_error e))) c.write_missing.result) (sym named) (c.write_missing.ensures p))
