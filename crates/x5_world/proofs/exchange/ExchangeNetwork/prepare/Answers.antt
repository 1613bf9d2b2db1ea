-- The update is due by what the agent holds, which is what the relation says, and so is its verdict.
use Rattle.std.proofs.Common.{◌≡◌, ℕ, List, true, length, sym, ap, subst, ◌∙◌}
use Rattle.std.proofs.lemmas.Bool.{lt-ltb}
use Rattle.std.proofs.lemmas.Result.{IfOk-weaker}
use Rattle.x5_model_heard.specs.Told.{name_agents}
use Rattle.x5_model_run.specs.Chain.{Scene}
use Rattle.x5_model_run.specs.Holdings.{Holdings}
use Rattle.x5_model_run.specs.Journal.{Journal}
use Rattle.x5_model_run.specs.Needs.{due_probes}
use Rattle.x5_model_serve.specs.Serving.{Hand, hand, holds_now}
use Rattle.x5_holdings.specs.State.{holdings_view}
use Rattle.x5_ops.specs.ReferenceViews.{chained_view}
use Rattle.x5_update.specs.Judging as judging
use Rattle.x5_world.specs.Laws.{knows}
use Rattle.x5_world.specs.State.{Net}
use Rattle.x5_world.specs.Sent.{scene_of, journal_of}
use Rattle.x5_world.proofs.Holding.{due_here, holds_is, in_place, probes_known, short_update}
use Rattle.x5_world.proofs.exchange.ExchangeNetwork.prepare.Goals as goal

pub prepare-requires-clause-due : goal.prepare-requires-clause-due
prepare-requires-clause-due g c =
    let n : Net = g.B.Begun.net in
    let user = chained_view n.names c.args.self.now.message.now in
    let s : Scene = scene_of n c.args.self.now.first user in
    let j : Journal = journal_of n.names c.args.self.now.lines.items c.args.self.now.accepted.items in
    let k : Hand = hand c.args.me (chained_view n.names c.args.message.now) in
    let changed = c.args.self.now.under_way.changed in
    let names : c.names.result.now ≡ n.names = c.names.ensures ∙ ap (λ (x : Net). x.names) changed.rest in
    let held : holds_now s j k ≡ holdings_view c.held-held.result.now =
    holds_is n c.args.self.now.world c.args.self.now.first user n.names c.args.self.now.lines.items
    c.args.self.now.accepted.items k changed
    ∙ in_place c.args.self.now.world c.args.me (holdings_view c.held-held.result.now) c.held-held.ensures.held in
    subst (λ (ns : List (List ℕ)). judging.IsDue (holdings_view c.held-held.result.now) (chained_view ns c.args.message.now))
    (sym names) (due_here s j k (holdings_view c.held-held.result.now) held c.requires.due)

pub prepare-requires-clause-known : goal.prepare-requires-clause-known
prepare-requires-clause-known g c =
    let n : Net = g.B.Begun.net in
    let user = chained_view n.names c.args.self.now.message.now in
    let s : Scene = scene_of n c.args.self.now.first user in
    let j : Journal = journal_of n.names c.args.self.now.lines.items c.args.self.now.accepted.items in
    let k : Hand = hand c.args.me (chained_view n.names c.args.message.now) in
    let changed = c.args.self.now.under_way.changed in
    let names : c.names.result.now ≡ n.names = c.names.ensures ∙ ap (λ (x : Net). x.names) changed.rest in
    let held : holds_now s j k ≡ holdings_view c.held-held.result.now =
    holds_is n c.args.self.now.world c.args.self.now.first user n.names c.args.self.now.lines.items
    c.args.self.now.accepted.items k changed
    ∙ in_place c.args.self.now.world c.args.me (holdings_view c.held-held.result.now) c.held-held.ensures.held in
    subst (λ (ns : List (List ℕ)). name_agents (length ns)
    (due_probes (holdings_view c.held-held.result.now) (chained_view ns c.args.message.now)) ≡ true) (sym names)
    (probes_known (length n.names) s j k (holdings_view c.held-held.result.now) held
    (knows n c.args.self.now.first user c.args.self.now.under_way.net)
    (lt-ltb c.args.me (length n.names) c.requires.there))

pub prepare-requires-clause-short : goal.prepare-requires-clause-short
prepare-requires-clause-short g c =
    let n : Net = g.B.Begun.net in
    let user = chained_view n.names c.args.self.now.message.now in
    short_update (scene_of n c.args.self.now.first user)
    (journal_of n.names c.args.self.now.lines.items c.args.self.now.accepted.items)
    (hand c.args.me (chained_view n.names c.args.message.now)) c.args.self.now.under_way.short c.requires.due

pub returns : goal.returns
returns g c =
    let n : Net = g.B.Begun.net in
    let user = chained_view n.names c.args.self.now.message.now in
    let s : Scene = scene_of n c.args.self.now.first user in
    let j : Journal = journal_of n.names c.args.self.now.lines.items c.args.self.now.accepted.items in
    let k : Hand = hand c.args.me (chained_view n.names c.args.message.now) in
    let changed = c.args.self.now.under_way.changed in
    let names : c.names.result.now ≡ n.names = c.names.ensures ∙ ap (λ (x : Net). x.names) changed.rest in
    let held : holds_now s j k ≡ holdings_view c.held-held.result.now =
    holds_is n c.args.self.now.world c.args.self.now.first user n.names c.args.self.now.lines.items
    c.args.self.now.accepted.items k changed
    ∙ in_place c.args.self.now.world c.args.me (holdings_view c.held-held.result.now) c.held-held.ensures.held in
    IfOk-weaker c.verdict.result _ _
    (λ v h. h s n.names j k
    (subst (λ (x : Holdings). judging.IsVerdict n.names x (chained_view n.names c.args.message.now) c.prepare.result)
    (sym held)
    (subst (λ (ns : List (List ℕ)). judging.IsVerdict ns (holdings_view c.held-held.result.now)
    (chained_view ns c.args.message.now) c.prepare.result) names c.prepare.ensures)))
    c.verdict.ensures
