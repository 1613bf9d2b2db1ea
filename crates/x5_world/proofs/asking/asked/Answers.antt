-- The user's message is the first of the exchange, and what becomes of it leads to one of the relation's three ends.
use Rattle.std.proofs.Common.{◌≡◌, ℕ, List, length, refl, sym, ap, subst, ◌∙◌, None}
use Rattle.std.proofs.lemmas.Bool.{lt-ltb}
use Rattle.x5_model_run.specs.Chain.{Scene}
use Rattle.x5_model_run.specs.Journal.{Journal}
use Rattle.x5_model_serve.specs.Serving.{nothing_yet}
use Rattle.x5_model_known.proofs.Replying.{replies_name_agents}
use Rattle.x5_ops.specs.AnswerViews.{reply_view}
use Rattle.x5_ops.specs.ReferenceViews.{chained_view}
use Rattle.x5_ops.specs.RequestViews.{request_view}
use Rattle.x5_serve.specs.declared.network.Carried.{Carried}
use Rattle.x5_serve.specs.declared.network.Carried.TheVariants.{Undelivered, Unheard, Taken}
use Rattle.x5_world.specs.Users.{user_in_vain_at}
use Rattle.x5_world.specs.State.{Net}
use Rattle.x5_world.specs.Laws.{hold_agents, are_themselves}
use Rattle.x5_world.specs.Sent.{journal_of, scene_of}
use Rattle.x5_world.proofs.Carrying.{unheard_sent, taken_sent}
use Rattle.x5_world.proofs.Users.{begun, IsFirst, At, changed_is, first_is, unheard_has, taken_has, lost, served, in_vain, heard}
use Rattle.x5_serve.specs.Networks.{IsCarriedBy}
use Rattle.x5_world.proofs.asking.asked.Goals.{in-Undelivered+in_ok-reply-in-Undelivered, in-Unheard+in_ok-reply-in-Unheard, in-Taken+in_ok-reply-in-Taken}
use Rattle.x5_world.proofs.asking.asked.Goals as goal

pub new-exchange-requires : goal.new-exchange-requires
new-exchange-requires g c =
    let n : Net = g.B.Begun.net in
    begun n c.args.world c.args.first c.args.most (chained_view n.names c.args.message) c.requires.begun c.requires.net c.requires.there c.requires.short c.requires.sent.bounded.request c.requires.room

pub served_in_vain-requires-clause-sent : goal.served_in_vain-requires-clause-sent
served_in_vain-requires-clause-sent g c =
    unheard_sent g.B.Begun.net.names c.in_ok-send.field-0 c.in-Unheard.taken c.in-Unheard.is c.in_ok-send.ensures.taken

pub user_served-requires-clause-sent : goal.user_served-requires-clause-sent
user_served-requires-clause-sent g c =
    taken_sent g.B.Begun.net.names c.in_ok-send.field-0 c.in-Taken.taken c.in-Taken.is c.in_ok-send.ensures.taken

pub returns-clause-asked : goal.returns-clause-asked
returns-clause-asked g c =
    let n : Net = g.B.Begun.net in
    let s : Scene = scene_of n c.args.first (chained_view n.names c.args.message) in
    let begin = c.new-exchange.ensures in
    let stays = c.send.ensures.stays in
    let user : chained_view n.names c.args.message ≡ s.message = refl in
    let scene_0 : scene_of n c.new-exchange.result.first (chained_view n.names c.new-exchange.result.message.now) ≡ s =
    (λ i. scene_of n (begin.0 i) (chained_view n.names (begin.1 i).now)) ∙ ap (scene_of n c.args.first) user in
    let scene_1 : scene_of n c.send.new.self.first (chained_view n.names c.send.new.self.message.now) ≡ s =
    (λ i. scene_of n (stays.0 i) (chained_view n.names (stays.1 i).now)) ∙ scene_0 in
    let most_1 : c.send.new.self.most ≡ c.args.most = stays.2 ∙ begin.2 in
    let j : Journal = journal_of n.names c.send.new.self.lines.items c.send.new.self.accepted.items in
    let out : Journal = journal_of n.names c.into_parts-world.result.1.items c.into_parts-world.result.2.items in
    let at : At =
    record {
      scene = scene_of n c.new-exchange.result.first (chained_view n.names c.new-exchange.result.message.now);
      most = c.new-exchange.result.most;
      names = n.names;
      before = journal_of n.names c.new-exchange.result.lines.items c.new-exchange.result.accepted.items;
      to = c.args.first;
      message = chained_view n.names c.args.message;
      carried = c.in_ok-send.field-0;
    } in
    let sent : IsCarriedBy at.scene at.most at.names at.before j None at.to at.message at.carried =
    subst (λ (xs : List ℕ). IsCarriedBy at.scene at.most at.names at.before
    (journal_of n.names c.send.new.self.lines.items xs) None at.to at.message at.carried)
    (λ i. (sym stays.3 i).items) c.in_ok-send.ensures.carried in
    let first : (x : Carried) → c.in_ok-send.field-0 ≡ x → IsFirst s c.args.most n.names j x =
    (λ x e. first_is at s c.args.most n.names j x scene_0 begin.2 refl (λ i. journal_of n.names (begin.3 i) (begin.4 i))
    refl user e sent) in
    elim c.match-branch-2.branch [
      | in-Undelivered+in_ok-reply-in-Undelivered w ↦
          lost s c.args.most n.names j out (reply_view n.names c.match-branch-2.reply)
          (first Undelivered w.in-Undelivered.is)
          (λ i. journal_of n.names ((c.into_parts-world.ensures.1 ∙ (λ k. (w.exchange-is k).lines)) i).items
          ((c.into_parts-world.ensures.2 ∙ (λ k. (w.exchange-is k).accepted)) i).items)
          (subst (λ (ns : List (List ℕ)). reply_view ns c.match-branch-2.reply
          ≡ user_in_vain_at c.args.first (chained_view ns c.args.message)) w.names.ensures
          (ap (reply_view w.names.result.now) w.reply-is ∙ w.in_ok-reply-in-Undelivered.ensures)
          ∙ ap (user_in_vain_at c.args.first) user)
      | in-Unheard+in_ok-reply-in-Unheard w ↦
          (let told = w.in_ok-reply-in-Unheard.ensures in
          let was = first (Unheard w.in-Unheard.taken) w.in-Unheard.is in
          let has : chained_view n.names w.in-Unheard.taken ≡ s.message =
          unheard_has s c.args.most n.names j w.in-Unheard.taken was in
          in_vain s c.args.most n.names j out w.in-Unheard.taken told.served.0
          (reply_view n.names c.match-branch-2.reply) was
          (served s (scene_of n c.send.new.self.first (chained_view n.names c.send.new.self.message.now)) c.args.most
          c.send.new.self.most c.args.first (chained_view n.names w.in-Unheard.taken) told.served.0 told.served.0 j
          (journal_of n.names w.served_in_vain.new.net.lines.items w.served_in_vain.new.net.accepted.items) out scene_1
          most_1 refl has refl
          (λ i. journal_of n.names ((c.into_parts-world.ensures.1 ∙ (λ k. (w.exchange-is k).lines)) i).items
          ((c.into_parts-world.ensures.2 ∙ (λ k. (w.exchange-is k).accepted)) i).items)
          told.served.1)
          (ap (reply_view n.names) w.reply-is ∙ told.told ∙ ap (user_in_vain_at c.args.first) has))
      | in-Taken+in_ok-reply-in-Taken w ↦
          (let was = first (Taken w.in-Taken.taken) w.in-Taken.is in
          let has : chained_view n.names w.in-Taken.taken ≡ s.message =
          taken_has s c.args.most n.names j w.in-Taken.taken was in
          heard s c.args.most n.names j out w.in-Taken.taken (reply_view n.names c.match-branch-2.reply) was
          (served s (scene_of n c.send.new.self.first (chained_view n.names c.send.new.self.message.now)) c.args.most
          c.send.new.self.most c.args.first (chained_view n.names w.in-Taken.taken)
          (reply_view n.names c.match-branch-2.reply) _ j
          (journal_of n.names w.user_served.new.net.lines.items w.user_served.new.net.accepted.items) out scene_1 most_1
          refl has (sym (ap (reply_view n.names) w.reply-is))
          (λ i. journal_of n.names ((c.into_parts-world.ensures.1 ∙ (λ k. (w.exchange-is k).lines)) i).items
          ((c.into_parts-world.ensures.2 ∙ (λ k. (w.exchange-is k).accepted)) i).items)
          w.in_ok-reply-in-Taken.ensures.served))
    ]

pub returns-clause-held : goal.returns-clause-held
returns-clause-held g c =
    let n : Net = g.B.Begun.net in
    let s : Scene = scene_of n c.args.first (chained_view n.names c.args.message) in
    let begin = c.new-exchange.ensures in
    let stays = c.send.ensures.stays in
    let user : chained_view n.names c.args.message ≡ s.message = refl in
    let scene_0 : scene_of n c.new-exchange.result.first (chained_view n.names c.new-exchange.result.message.now) ≡ s =
    (λ i. scene_of n (begin.0 i) (chained_view n.names (begin.1 i).now)) ∙ ap (scene_of n c.args.first) user in
    let scene_1 : scene_of n c.send.new.self.first (chained_view n.names c.send.new.self.message.now) ≡ s =
    (λ i. scene_of n (stays.0 i) (chained_view n.names (stays.1 i).now)) ∙ scene_0 in
    let scene : scene_of n c.match-branch-2.exchange.first (chained_view n.names c.match-branch-2.exchange.message.now) ≡ s =
    elim c.match-branch-2.branch [
      | in-Undelivered+in_ok-reply-in-Undelivered w ↦
          (λ i. scene_of n (w.exchange-is i).first (chained_view n.names (w.exchange-is i).message.now)) ∙ scene_1
      | in-Unheard+in_ok-reply-in-Unheard w ↦
          (λ i. scene_of n (w.exchange-is i).first (chained_view n.names (w.exchange-is i).message.now))
          ∙ w.served_in_vain.ensures.stays.scene_is ∙ scene_1
      | in-Taken+in_ok-reply-in-Taken w ↦
          (λ i. scene_of n (w.exchange-is i).first (chained_view n.names (w.exchange-is i).message.now))
          ∙ w.user_served.ensures.stays.scene_is ∙ scene_1
    ] in
    changed_is n c.match-branch-2.exchange.world c.into_parts-world.result.0
    (chained_view n.names c.match-branch-2.exchange.message.now).request (request_view c.args.message.request)
    c.match-branch-2.exchange.accepted.items c.into_parts-world.result.2.items c.into_parts-world.ensures.0
    (ap (λ (x : Scene). x.message.request) scene) (λ i. (c.into_parts-world.ensures.2 i).items)
    c.match-branch-2.exchange.under_way.changed

pub returns-clause-named : goal.returns-clause-named
returns-clause-named g c =
    let n : Net = g.B.Begun.net in
    let s : Scene = scene_of n c.args.first (chained_view n.names c.args.message) in
    replies_name_agents (length n.names) s c.args.most
    (journal_of n.names c.into_parts-world.result.1.items c.into_parts-world.result.2.items)
    (reply_view n.names c.match-branch-2.reply)
    (hold_agents n c.args.first (chained_view n.names c.args.message) c.requires.net)
    (are_themselves n c.args.first (chained_view n.names c.args.message) c.requires.net)
    (lt-ltb c.args.first (length n.names) c.requires.there) (returns-clause-asked g c)
