-- The update is passed by what the agent holds, and afterwards it holds what it accepted.
use Rattle.std.proofs.Common.{◌≡◌, ℕ, List, sym, ap, subst, ◌∙◌, ◌++◌, ◌∷◌, []}
use Rattle.x5_model_fitting.specs.Requests.{BodyWithin}
use Rattle.x5_model_run.specs.Chain.{Scene}
use Rattle.x5_model_run.specs.Journal.{Journal}
use Rattle.x5_model_serve.specs.Serving.{Hand, hand}
use Rattle.x5_ops.specs.ReferenceViews.{chained_view}
use Rattle.x5_world.specs.State.{Net, holdings_in}
use Rattle.x5_world.specs.Sent.{scene_of, journal_of}
use Rattle.x5_world.proofs.Holding.{holds_is, ready_here, still_with}
use Rattle.x5_world.proofs.exchange.ExchangeNetwork.commit.Goals as goal

pub commit-requires-clause-ready : goal.commit-requires-clause-ready
commit-requires-clause-ready g c =
    let n : Net = g.B.Begun.net in
    let user = chained_view n.names c.args.self.now.message.now in
    let s : Scene = scene_of n c.args.self.now.first user in
    let j : Journal = journal_of n.names c.args.self.now.lines.items c.args.self.now.accepted.items in
    let k : Hand = hand c.args.me (chained_view n.names c.args.message.now) in (
      n.names,
      ready_here s j k (holdings_in c.args.self.now.world c.args.me)
          (holds_is n c.args.self.now.world c.args.self.now.first user n.names c.args.self.now.lines.items
          c.args.self.now.accepted.items k c.args.self.now.under_way.changed)
          c.requires.ready,
    )

pub commit-requires-clause-within : goal.commit-requires-clause-within
commit-requires-clause-within g c =
    let due = c.requires.ready.due in
    subst BodyWithin (sym (due.of_user.update due.update)) c.args.self.now.under_way.request.body

pub invariant_of-self-2 : goal.invariant_of-self-2
invariant_of-self-2 g c =
    let n : Net = g.B.Begun.net in
    let user = chained_view n.names c.args.self.now.message.now in
    record {
      under_way = still_with n c.args.self.now.world c.commit.new.self c.args.self.now.first user c.args.self.now.most
          c.args.self.now.lines.items c.args.self.now.accepted.items c.push_reserved.new.self.items c.args.me
          (chained_view n.names c.args.message.now) c.args.self.now.under_way c.requires.there c.requires.ready
          c.in_ok-commit.ensures.committed
          (c.push_reserved.ensures.items
          ∙ ap (λ (xs : List ℕ). xs ++ c.args.me ∷ []) c.reserve.ensures.items);
    }
