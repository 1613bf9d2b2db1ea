-- What is replied is within the limits of messages, so it has octets; and it says to the user what the agent said.
use Rattle.std.proofs.Common.{◌≡◌, sym, subst}
use Rattle.std.proofs.lemmas.Result.{IfOk-weaker}
use Rattle.x5_model_serve.specs.Serving.{Serves, hand}
use Rattle.x5_model.specs.Answers.{Reply}
use Rattle.x5_ops.specs.AnswerViews.{reply_view}
use Rattle.x5_ops.specs.JournalViews.{code_view}
use Rattle.x5_ops.specs.ReferenceViews.{chained_view}
use Rattle.x5_serve.specs.Networks.{DoesAt}
use Rattle.x5_serve.proofs.Limits.{may_be_replied}
use Rattle.x5_world.proofs.Carrying.{replied_within}
use Rattle.x5_world.proofs.asking.user_served.Goals as goal

pub told_back-back-requires : goal.told_back-back-requires
told_back-back-requires g c =
    let n = g.N.Network in
    let net = c.args.net.now in
    replied_within (n.names net) c.operation-operation.result c.in_ok-reply.reply (g.met.N.Network.plain net)
    (may_be_replied (n.names net) (n.scene net) (n.most net) (n.journal net) (n.journal c.serve.new.net) c.args.first
    c.args.message.now c.in_ok-reply.reply (code_view c.operation-operation.result) (g.met.N.Network.bounded net) c.requires.there
    c.requires.sent c.operation-operation.ensures c.in_ok-reply.ensures.does)

pub returns-clause-served : goal.returns-clause-served
returns-clause-served g c =
    let n = g.N.Network in
    let names = n.names c.args.net.now in
    IfOk-weaker c.told_back-back.result _ _
    (λ back e. subst (λ (y : Reply). DoesAt n.scene n.most n.journal c.args.net.now c.serve.new.net
    (Serves (hand c.args.first (chained_view names c.args.message.now)) y)) (sym (e names)) c.in_ok-reply.ensures.does)
    c.told_back-back.ensures
