-- A request of the user is a message for which nothing is resolved yet.
use Rattle.std.proofs.Common.{sym, subst}
use Rattle.std.proofs.lemmas.Result.{IfOk-weaker}
use Rattle.x5_model.specs.References.{Chained}
use Rattle.x5_ops.specs.RequestViews.{request_view}
use Rattle.x5_world.specs.Answered.{IsAnswered}
use Rattle.x5_world.specs.State.{HasShortNames}
use Rattle.x5_world.proofs.Carrying.{opening_sent}
use Rattle.x5_world.proofs.world.World.ask.Goals as goal

pub send-requires-clause-short : goal.send-requires-clause-short
send-requires-clause-short c =
    subst (λ (m : Chained). HasShortNames m.request.body) (sym (c.in_ok-message.ensures c.args.self.now.names)) c.requires.short

pub send-requires-clause-sent : goal.send-requires-clause-sent
send-requires-clause-sent c =
    let names = c.args.self.now.names in
    opening_sent names c.in_ok-message.message (request_view c.args.request.now) (c.in_ok-message.ensures names) c.requires.within

pub returns-clause-answered : goal.returns-clause-answered
returns-clause-answered c =
    IfOk-weaker c.send.result _ _ (λ out is p s.
    subst (λ (m : Chained). IsAnswered c.args.self.now c.send.new.self p c.args.first m out.0 out.1)
    (c.in_ok-message.ensures c.args.self.now.names) (is p s)) c.send.ensures.answered
