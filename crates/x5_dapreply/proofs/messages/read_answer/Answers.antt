-- What the octets spell is a value for whose parts the code has types, so what it says is decoded.
use Rattle.std.proofs.Common.{arith}
use Rattle.std.proofs.lemmas.Result.{err_from_is_err_and}
use Rattle.std.specs.declared.result.Result.TheVariants.{Ok}
use Rattle.x5_model_messages.specs.Replies as replies
use Rattle.x5_model_typed.specs.Named as named
use Rattle.x5_model_typed_laws.proofs.Closed.{messages_spelled_fit}
use Rattle.x5_types.specs.FormView.{nowhere}
use Rattle.x5_types.specs.NodeView.{node_view}
use Rattle.x5_dapber.proofs.Decoding.{value_decodes, fault_decodes, memory_decodes, known_read}
use Rattle.x5_dapber.proofs.Octets.{are_octets, spelled_comes}
use Rattle.x5_dapreply.specs.ReplyViews.{heard_in, unnumbered}
use Rattle.x5_dapreply.proofs.ReplyIsSayable.{reply_fits}
use Rattle.x5_dapreply.proofs.SaidReplies.{heard_back, seen}
use Rattle.x5_dapreply.proofs.messages.read_answer.Goals as goal

pub reply_in-requires : goal.reply_in-requires
reply_in-requires c =
    reply_fits (node_view c.in_ok-node.node)
    (messages_spelled_fit nowhere named.DapAnswer c.args.octets.now (node_view c.in_ok-node.node)
    (are_octets c.args.octets.now (λ k. omega (arith, c.type_inv.octets k))) c.in_ok-node.ensures.spelled)

-- a breach, or want of memory while octets are read
pub returns-in_err-node-clause-decodes : goal.returns-in_err-node-clause-decodes
returns-in_err-node-clause-decodes c = λ e comes.
    let p = err_from_is_err_and c.from_residual.result c.from_residual.ensures.1 in
    fault_decodes seen heard_in e _ c.from_residual.result p.0 p.1 p.2 (c.in_err-node.ensures.reads e comes)

pub returns-in_err-node-clause-exact : goal.returns-in_err-node-clause-exact
returns-in_err-node-clause-exact c = λ n spells.
    let p = err_from_is_err_and c.from_residual.result c.from_residual.ensures.1 in
    let comes = spelled_comes named.DapAnswer c.args.octets.now n spells in
    fault_decodes seen heard_in (Ok n) _ c.from_residual.result p.0 p.1 p.2 (c.in_err-node.ensures.reads (Ok n) comes)

pub returns-in_err-node-clause-back : goal.returns-in_err-node-clause-back
returns-in_err-node-clause-back c = λ id r is_told spells.
    let p = err_from_is_err_and c.from_residual.result c.from_residual.ensures.1 in
    let n = replies.reply_node replies.to_user id r in
    let comes = spelled_comes named.DapAnswer c.args.octets.now n spells in
    known_read seen heard_in n (id, unnumbered r) c.from_residual.result (heard_back replies.to_user id r is_told)
    (fault_decodes seen heard_in (Ok n) _ c.from_residual.result p.0 p.1 p.2 (c.in_err-node.ensures.reads (Ok n) comes))

-- want of memory while the reply is made
pub returns-in_err-reply_in-clause-decodes : goal.returns-in_err-reply_in-clause-decodes
returns-in_err-reply_in-clause-decodes c = λ e comes.
    let p = err_from_is_err_and c.from_residual-in_err-reply_in.result c.from_residual-in_err-reply_in.ensures.1 in
    memory_decodes seen heard_in e c.from_residual-in_err-reply_in.result p.0 p.1 p.2

pub returns-in_err-reply_in-clause-exact : goal.returns-in_err-reply_in-clause-exact
returns-in_err-reply_in-clause-exact c = λ n spells.
    let p = err_from_is_err_and c.from_residual-in_err-reply_in.result c.from_residual-in_err-reply_in.ensures.1 in
    memory_decodes seen heard_in (Ok n) c.from_residual-in_err-reply_in.result p.0 p.1 p.2

pub returns-in_err-reply_in-clause-back : goal.returns-in_err-reply_in-clause-back
returns-in_err-reply_in-clause-back c = λ id r is_told spells.
    let p = err_from_is_err_and c.from_residual-in_err-reply_in.result c.from_residual-in_err-reply_in.ensures.1 in
    let n = replies.reply_node replies.to_user id r in
    known_read seen heard_in n (id, unnumbered r) c.from_residual-in_err-reply_in.result (heard_back replies.to_user id r is_told)
    (memory_decodes seen heard_in (Ok n) c.from_residual-in_err-reply_in.result p.0 p.1 p.2)

pub returns-clause-decodes : goal.returns-clause-decodes
returns-clause-decodes c = λ e comes.
    value_decodes seen heard_in e c.in_ok-node.node c.in_ok-reply_in.field-0 c.in_ok-reply_in.ensures
    (c.in_ok-node.ensures.reads e comes)

pub returns-clause-exact : goal.returns-clause-exact
returns-clause-exact c = λ n spells.
    value_decodes seen heard_in (Ok n) c.in_ok-node.node c.in_ok-reply_in.field-0 c.in_ok-reply_in.ensures
    (c.in_ok-node.ensures.reads (Ok n) (spelled_comes named.DapAnswer c.args.octets.now n spells))

pub returns-clause-back : goal.returns-clause-back
returns-clause-back c = λ id r is_told spells.
    let n = replies.reply_node replies.to_user id r in
    known_read seen heard_in n (id, unnumbered r) (Ok c.in_ok-reply_in.field-0) (heard_back replies.to_user id r is_told)
    (value_decodes seen heard_in (Ok n) c.in_ok-node.node c.in_ok-reply_in.field-0 c.in_ok-reply_in.ensures
    (c.in_ok-node.ensures.reads (Ok n) (spelled_comes named.DapAnswer c.args.octets.now n spells)))

pub returns-clause-spelled : goal.returns-clause-spelled
returns-clause-spelled c = (node_view c.in_ok-node.node, c.in_ok-node.ensures.spelled, c.in_ok-reply_in.ensures)
