-- What was found is answered as the relation has it.
use Rattle.std.proofs.Common.{rules, ◌≡◌, None, sym, subst}
use Rattle.x5_model_serve.specs.Serving.{hand, Serves, Does, nowhere, stuck}
use Rattle.x5_ops.specs.ReferenceViews.{chained_view}
use Rattle.x5_ops.specs.AnswerViews.{reply_view}
use Rattle.x5_serve.specs.Networks.{IsFound}
use Rattle.std.proofs.lemmas.Result.{IfOk-weaker}
use Rattle.x5_serve.proofs.Arriving.{looked_at, told_does}
use Rattle.x5_serve.proofs.arrival.first_step.Goals as goal

pub returns-in-Told : goal.returns-in-Told
returns-in-Told g c =
    let none : c.in_ok-reply.field-0 ≡ None = search rules in
    let arrives = looked_at (g.N.Network.scene c.args.net.now) (g.N.Network.most c.args.net.now) (g.N.Network.names
    c.args.net.now) (g.N.Network.journal c.args.net.now)
    (hand c.args.me (chained_view (g.N.Network.names c.args.net.now) c.args.message.now)) c.in_ok-reply.field-0
    c.in_ok-reply.ensures none in
    let found = subst (IsFound (g.N.Network.scene c.args.net.now) (g.N.Network.names c.args.net.now)
    (g.N.Network.journal c.args.net.now) (hand c.args.me (chained_view (g.N.Network.names c.args.net.now)
    c.args.message.now))) c.in-Told.is c.in_ok-reply-2.ensures in
    told_does (hand c.args.me (chained_view (g.N.Network.names c.args.net.now) c.args.message.now)) (g.N.Network.journal
    c.args.net.now) (reply_view (g.N.Network.names c.args.net.now) c.in-Told.reply) arrives found

pub returns-in-Part : goal.returns-in-Part
returns-in-Part g c =
    let none : c.in_ok-reply.field-0 ≡ None = search rules in
    let arrives = looked_at (g.N.Network.scene c.args.net.now) (g.N.Network.most c.args.net.now) (g.N.Network.names
    c.args.net.now) (g.N.Network.journal c.args.net.now)
    (hand c.args.me (chained_view (g.N.Network.names c.args.net.now) c.args.message.now)) c.in_ok-reply.field-0
    c.in_ok-reply.ensures none in
    let found = subst (IsFound (g.N.Network.scene c.args.net.now) (g.N.Network.names c.args.net.now)
    (g.N.Network.journal c.args.net.now) (hand c.args.me (chained_view (g.N.Network.names c.args.net.now)
    c.args.message.now))) c.in-Part.is c.in_ok-reply-2.ensures in
    IfOk-weaker c.parted.result _ _ (λ step h. h (g.N.Network.scene c.args.net.now) (g.N.Network.most c.args.net.now)
    (g.N.Network.names c.args.net.now) (g.N.Network.journal c.args.net.now) c.args.me
    (sym c.may_not_chain-idle.ensures) arrives found) c.parted.ensures

pub returns-in-Onward : goal.returns-in-Onward
returns-in-Onward g c =
    let none : c.in_ok-reply.field-0 ≡ None = search rules in
    let arrives = looked_at (g.N.Network.scene c.args.net.now) (g.N.Network.most c.args.net.now) (g.N.Network.names
    c.args.net.now) (g.N.Network.journal c.args.net.now)
    (hand c.args.me (chained_view (g.N.Network.names c.args.net.now) c.args.message.now)) c.in_ok-reply.field-0
    c.in_ok-reply.ensures none in
    let found = subst (IsFound (g.N.Network.scene c.args.net.now) (g.N.Network.names c.args.net.now)
    (g.N.Network.journal c.args.net.now) (hand c.args.me (chained_view (g.N.Network.names c.args.net.now)
    c.args.message.now))) c.in-Onward.is c.in_ok-reply-2.ensures in
    c.onward.ensures (g.N.Network.scene c.args.net.now) (g.N.Network.most c.args.net.now) (g.N.Network.names
    c.args.net.now) (g.N.Network.journal c.args.net.now)
    (hand c.args.me (chained_view (g.N.Network.names c.args.net.now) c.args.message.now))
    (sym c.may_not_chain-idle.ensures) arrives found

pub returns-in-Nowhere : goal.returns-in-Nowhere
returns-in-Nowhere g c =
    let none : c.in_ok-reply.field-0 ≡ None = search rules in
    let arrives = looked_at (g.N.Network.scene c.args.net.now) (g.N.Network.most c.args.net.now) (g.N.Network.names
    c.args.net.now) (g.N.Network.journal c.args.net.now)
    (hand c.args.me (chained_view (g.N.Network.names c.args.net.now) c.args.message.now)) c.in_ok-reply.field-0
    c.in_ok-reply.ensures none in
    let found = subst (IsFound (g.N.Network.scene c.args.net.now) (g.N.Network.names c.args.net.now)
    (g.N.Network.journal c.args.net.now) (hand c.args.me (chained_view (g.N.Network.names c.args.net.now)
    c.args.message.now))) c.in-Nowhere.is c.in_ok-reply-2.ensures in
    nowhere c.in-Nowhere.matched arrives found

pub returns-in_ok-stuck-in-Stuck : goal.returns-in_ok-stuck-in-Stuck
returns-in_ok-stuck-in-Stuck g c =
    let none : c.in_ok-reply.field-0 ≡ None = search rules in
    let arrives = looked_at (g.N.Network.scene c.args.net.now) (g.N.Network.most c.args.net.now) (g.N.Network.names
    c.args.net.now) (g.N.Network.journal c.args.net.now)
    (hand c.args.me (chained_view (g.N.Network.names c.args.net.now) c.args.message.now)) c.in_ok-reply.field-0
    c.in_ok-reply.ensures none in
    let found = subst (IsFound (g.N.Network.scene c.args.net.now) (g.N.Network.names c.args.net.now)
    (g.N.Network.journal c.args.net.now) (hand c.args.me (chained_view (g.N.Network.names c.args.net.now)
    c.args.message.now))) c.in-Stuck.is c.in_ok-reply-2.ensures in
    let told = rw c.names.ensures at c.in_ok-stuck-in-Stuck.ensures in
    subst (λ y. Does (g.N.Network.scene c.args.net.now) (g.N.Network.most c.args.net.now)
    (Serves (hand c.args.me (chained_view (g.N.Network.names c.args.net.now) c.args.message.now)) y)
    (g.N.Network.journal c.args.net.now) (g.N.Network.journal c.args.net.now)) (sym told) (stuck arrives found)
