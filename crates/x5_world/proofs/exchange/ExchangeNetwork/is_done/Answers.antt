-- It's done where all three tests say so: an update, which the agent accepted, and it goes on with the name.
use Rattle.std.proofs.Common.{◌≡◌, ◌==◌, ◌&&◌, Bool, true, false, refl, sym, ap, ◌∙◌, rules, of_calls}
use Rattle.x5_model.specs.Words.{has}
use Rattle.x5_model_run.specs.Chain.{Scene}
use Rattle.x5_model_run.specs.Holdings.{Holdings}
use Rattle.x5_model_run.specs.Journal.{Journal}
use Rattle.x5_model_run.specs.Needs as needs
use Rattle.x5_model_serve.specs.Serving.{Hand, hand, holds_now}
use Rattle.x5_holdings.specs.State.{holdings_view}
use Rattle.x5_ops.specs.ReferenceViews.{chained_view}
use Rattle.x5_world.specs.State.{Net}
use Rattle.x5_world.specs.Sent.{scene_of, journal_of}
use Rattle.x5_world.proofs.Holding.{all_three, first_none, has_reverse, holds_is, in_place, no_second, neither_nor}
use Rattle.x5_world.proofs.exchange.ExchangeNetwork.is_done.Goals.{then-is_update, else-is_update}
use Rattle.x5_world.proofs.exchange.ExchangeNetwork.is_done.Goals as goal

pub returns-then-has_agent : goal.returns-then-has_agent
returns-then-has_agent g c =
    let n : Net = g.B.Begun.net in
    let user = chained_view n.names c.args.self.now.message.now in
    let s : Scene = scene_of n c.args.self.now.first user in
    let j : Journal = journal_of n.names c.args.self.now.lines.items c.args.self.now.accepted.items in
    let k : Hand = hand c.args.me (chained_view n.names c.args.message.now) in
    let held : holds_now s j k ≡ holdings_view c.held.result.now =
    holds_is n c.args.self.now.world c.args.self.now.first user n.names c.args.self.now.lines.items
    c.args.self.now.accepted.items k c.args.self.now.under_way.changed
    ∙ in_place c.args.self.now.world c.args.me (holdings_view c.held.result.now) c.held.ensures.held in
    let goes_on : c.goes_on.result ≡ needs.resolves (holds_now s j k) k.message =
    c.goes_on.ensures n.names ∙ ap (λ (h : Holdings). needs.resolves h k.message) (sym held) in
    elim c.if-is_update.branch [
      | then-is_update w ↦
          (let accepted : w.has_agent.result ≡ has ◌==◌ c.args.self.now.accepted.items c.args.me = search (rules, of_calls) in
          all_three _ _ _ c.goes_on.result (sym c.is_update.ensures ∙ w.if-is_update.true)
          (has_reverse c.args.self.now.accepted.items c.args.me ∙ sym accepted ∙ sym w.value-is ∙ c.if-has_agent.true)
          goes_on)
      | else-is_update w ↦
          neither_nor c.if-is_update.value _ _ (sym w.if-is_update.false ∙ sym w.value-is ∙ c.if-has_agent.true)
    ]

pub returns-else-has_agent : goal.returns-else-has_agent
returns-else-has_agent g c =
    let n : Net = g.B.Begun.net in
    elim c.if-is_update.branch [
      | then-is_update w ↦
          (let accepted : w.has_agent.result ≡ has ◌==◌ c.args.self.now.accepted.items c.args.me = search (rules, of_calls) in
          no_second c.if-is_update.value _ _ _ c.if-has_agent.false
          (has_reverse c.args.self.now.accepted.items c.args.me ∙ sym accepted ∙ sym w.value-is ∙ c.if-has_agent.false))
      | else-is_update w ↦
          first_none c.if-is_update.value _ _ c.if-has_agent.false (sym c.is_update.ensures ∙ w.if-is_update.false)
    ]
