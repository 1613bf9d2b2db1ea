-- What the agent holds is what the relation says that it holds by then.
use Rattle.std.proofs.Common.{◌≡◌, ap, ◌∙◌, List, ℕ}
use Rattle.std.proofs.lemmas.Result.{IfOk-weaker}
use Rattle.x5_model_run.specs.Chain.{Scene}
use Rattle.x5_model_run.specs.Journal.{Journal}
use Rattle.x5_model_serve.specs.Serving.{Hand, hand, holds_now}
use Rattle.x5_holdings.specs.State.{holdings_view}
use Rattle.x5_ops.specs.ReferenceViews.{chained_view}
use Rattle.x5_world.specs.State.{Net}
use Rattle.x5_world.specs.Sent.{scene_of, journal_of}
use Rattle.x5_world.proofs.Holding.{found_there, holds_is, in_place}
use Rattle.x5_world.proofs.exchange.ExchangeNetwork.find.Goals as goal

pub returns : goal.returns
returns g c =
    let n : Net = g.B.Begun.net in
    let user = chained_view n.names c.args.self.now.message.now in
    let s : Scene = scene_of n c.args.self.now.first user in
    let j : Journal = journal_of n.names c.args.self.now.lines.items c.args.self.now.accepted.items in
    let k : Hand = hand c.args.me (chained_view n.names c.args.message.now) in
    let changed = c.args.self.now.under_way.changed in
    let names : c.names.result.now ≡ n.names = c.names.ensures ∙ ap (λ (x : Net). x.names) changed.rest in
    let held : holds_now s j k ≡ holdings_view c.held.result.now =
    holds_is n c.args.self.now.world c.args.self.now.first user n.names c.args.self.now.lines.items
    c.args.self.now.accepted.items k changed
    ∙ in_place c.args.self.now.world c.args.me (holdings_view c.held.result.now) c.held.ensures.held in
    IfOk-weaker c.find.result _ _
    (λ found h. found_there s j c.names.result.now n.names c.held.result.now.me c.args.me
    (holdings_view c.held.result.now) c.args.message.now found names c.held.ensures.holder.me h held)
    c.find.ensures
