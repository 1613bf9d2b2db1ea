-- What was asked was answered, and the messages are printed by the names of their agents.
use Rattle.std.proofs.Common.{◌≡◌, ℕ, ◌+◌, ◌<◌, true, List, length, map, refl, sym, ap, subst, ◌∙◌, arith}
use Rattle.std.specs.List.{list_all}
use Rattle.x5_holdings.specs.State.{holdings_view}
use Rattle.x5_model_known.specs.Replying.{reply_agents}
use Rattle.x5_model_run.specs.Journal as model
use Rattle.x5_ops.specs.AgentNames.{agent_of}
use Rattle.x5_ops.specs.AnswerViews.{reply_view}
use Rattle.x5_ops.specs.JournalViews.{messages_view}
use Rattle.x5_ops.specs.ReferenceViews.{chained_view}
use Rattle.x5_ops.specs.RequestViews.{request_view}
use Rattle.x5_serve.specs.Sendable.{MayBeSent}
use Rattle.x5_world.specs.Answered.{IsAnswered, NamesAgents, is_agent, line_names_agents}
use Rattle.x5_world.specs.State.{Net, StandsAt}
use Rattle.x5_world.specs.Sent.{line_view}
use Rattle.x5_world.specs.declared.journal.Sent.{Sent}
use Rattle.x5_world.proofs.Standing.{most_of}
use Rattle.x5_world.proofs.Worlds.{answered, few_lines, is_after}
use Rattle.x5_world.proofs.world.World.send.Goals as goal

pub asked-requires-clause-sent : goal.asked-requires-clause-sent
asked-requires-clause-sent c =
    subst (λ (n : Net). MayBeSent n.names c.args.message) (sym c.replace-before.ensures.value) c.requires.sent

pub count-requires-clause-lines : goal.count-requires-clause-lines
count-requires-clause-lines c =
    let e = ap (λ (n : Net). n.line) c.in_ok-told.ensures.held.rest in
    let was = ap (λ (n : Net). n.line) c.replace-before.ensures.value in
    let few = few_lines c.args.self.now c.requires.room in
    omega (arith, e, was, few)

pub returns-clause-answered : goal.returns-clause-answered
returns-clause-answered c =
    let old : Net = c.replace-before.result in
    let was : old ≡ c.args.self.now = c.replace-before.ensures.value in
    let named : c.names-names.result.now ≡ old.names =
    c.names-names.ensures ∙ ap (λ (n : Net). n.names) c.in_ok-told.ensures.held.rest in
    let sent : List Sent = c.in_ok-told.told.lines.items in
    let printed : messages_view old.names c.in_ok-journal.journal.lines
    ≡ map (λ l. model.printed_line (line_view old.names l)) sent =
    ap (messages_view old.names) c.in_ok-journal.ensures.lines
    ∙ subst (λ (ns : List (List ℕ)). messages_view ns c.in_ok-lines.lines
    ≡ map (λ l. model.printed_line (line_view ns l)) sent) named
    (c.in_ok-lines.ensures.printed
    ∙ ap (λ (ls : List Sent). map (λ l. model.printed_line (line_view c.names-names.result.now l)) ls) c.deref.ensures.value) in
    let called : map (agent_of old.names) c.in_ok-journal.journal.accepted ≡ c.in_ok-told.told.accepted.items =
    subst (λ (ns : List (List ℕ)). map (agent_of ns) c.in_ok-journal.journal.accepted ≡ c.in_ok-told.told.accepted.items)
    named (c.in_ok-journal.ensures.accepted ∙ c.deref-2.ensures.value) in
    let count : c.len-messages.result ≡ length sent = (omega (arith, c.len-messages.ensures)) in
    let mid : Net = c.in_ok-told.told.world in
    let after : Net = record mid { sent = mid.sent + c.len-messages.result; line = mid.line + 1 } in
    λ p s. subst (λ (n : Net). IsAnswered c.args.self.now n p c.args.first
    (chained_view c.args.self.now.names c.args.message) c.in_ok-told.told.reply c.in_ok-journal.journal)
    (sym c.count.ensures)
    (subst (λ (n : Net). IsAnswered n after p c.args.first (chained_view n.names c.args.message)
    c.in_ok-told.told.reply c.in_ok-journal.journal) was
    (answered old after p c.args.first c.args.most (chained_view old.names c.args.message) sent
    c.in_ok-told.told.accepted.items c.in_ok-told.told.reply c.in_ok-journal.journal
    c.in_ok-told.ensures.asked (c.requires.is ∙ ap most_of (sym was)) printed called
    (is_after old mid mid (request_view c.args.message.request) c.in_ok-told.told.accepted.items
    c.len-messages.result (length sent) c.in_ok-told.ensures.held refl count)
    (subst (λ (n : Net). c.args.first < length n.names) (sym was) c.requires.there)
    c.requires.short c.requires.sent.bounded.request
    (subst (λ (n : Net). StandsAt n p) (sym was) s)))

pub returns-clause-named : goal.returns-clause-named
returns-clause-named c =
    let old : Net = c.replace-before.result in
    let was : old ≡ c.args.self.now = c.replace-before.ensures.value in
    let named : c.names-names.result.now ≡ old.names =
    c.names-names.ensures ∙ ap (λ (n : Net). n.names) c.in_ok-told.ensures.held.rest in
    subst (λ (n : Net). NamesAgents n.names c.in_ok-told.told.reply c.in_ok-journal.journal) was
    (record {
      lines = ap (list_all (line_names_agents old.names)) c.in_ok-journal.ensures.lines
          ∙ subst (λ (ns : List (List ℕ)). list_all (line_names_agents ns) c.in_ok-lines.lines ≡ true) named
          c.in_ok-lines.ensures.named;
      accepted = subst (λ (ns : List (List ℕ)). list_all (is_agent ns) c.in_ok-journal.journal.accepted ≡ true) named
          c.in_ok-journal.ensures.named;
      reply = c.in_ok-told.ensures.named;
    })
