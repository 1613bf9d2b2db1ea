-- The value is written as it is, with the codes of the protocol and the operation.
use Rattle.std.proofs.Common.{ℕ, subst}
use Rattle.x5_model_messages.specs.Replies.{reply_node}
use Rattle.x5_model_typed.specs.Named as named
use Rattle.x5_model_typed.specs.Nodes as nodes
use Rattle.x5_model_typed.specs.Written.{canonical_octets}
use Rattle.x5_ops.specs.JournalViews.{code_view}
use Rattle.x5_types.specs.FormView.{named_view, table}
use Rattle.x5_writer.specs.Puts.{Writes}
use Rattle.x5_dapreply.specs.Found.{referral_of}
use Rattle.x5_dapreply.specs.ReplyViews.{told_reply}
use Rattle.x5_dapreply.proofs.whole.write_other.Goals as goal

pub returns : goal.returns
returns c =
    let id = c.args.id in
    let reply = c.args.reply.now in
    let code = code_view c.args.operation in
    let form = named_view c.form.result in
    let r = c.write.result in
    subst (λ (f : named.Named). Writes (canonical_octets table f
    (reply_node (referral_of c.args.protocol) id (told_reply code reply))) r) c.form.ensures
    (subst (λ (k : ℕ). Writes (canonical_octets table form (reply_node k id (told_reply code reply))) r) c.referral.ensures
    (subst (λ (k : ℕ). Writes (canonical_octets table form (reply_node c.referral.result id (told_reply k reply))) r)
    c.code.ensures
    (subst (λ (n : nodes.Node). Writes (canonical_octets table form n) r) c.in_ok-node.ensures c.write.ensures)))
