-- Each step of the cycle is a step of the relation: what is heard, asked and taken is seen from the network as it was
-- when the
-- function began, which stays but for its journal.
use Rattle.std.proofs.Common.{rules, ◌≡◌, ◌<◌, [], ◌∷◌, ◌++◌, length, map, refl, sym, ap, subst, ◌∙◌, arith}
use Rattle.std.proofs.lemmas.Result.{IfOk-weaker}
use Rattle.x5_model_serve.specs.Serving.{hand, none_yet, none_asked, no_probe}
use Rattle.x5_model_run.specs.Journal.{operation_of}
use Rattle.x5_ops.specs.JournalViews.{code_view}
use Rattle.x5_ops.specs.RequestViews.{body_view}
use Rattle.x5_ops.specs.ReferenceViews.{chained_view, reference_view, access_view}
use Rattle.x5_serve.specs.Steps.{heard_view, IsHeardBy}
use Rattle.x5_serve.proofs.Walks.{Carries}
use Rattle.x5_serve.proofs.Sent.{no_change, stays_on, first_goes, goes_on, agent_stays, user_stays, user_taken, user_onward, next_agent, next_to, next_reference, ask_spent, ask_lost, ask_dropped, ask_heard, taken_is, taken_less, back_told, last_told}
use Rattle.x5_serve.proofs.Asked.{turn_in_vain, turn_heard, turn_unheard, cast_silent, cast_unable, cast_answered, cast_nobody, cast_some, probe_unheard, probe_noted, probe_passed, probe_ends, probe_through, first_part, part_lost, part_joins, part_leaves, part_ends}
use Rattle.x5_serve.proofs.Sending.{sent_stays, passable_stays, next_bounded, taken_sent, dropped_sent, dropped_is, dropped_less, goes_passable, goes_bounded, joins_passable, joins_bounded, back_replied, back_passable, back_bounded, referral_passable, referral_bounded, rest_passable, rest_bounded, due_passable}
use Rattle.x5_serve.proofs.Served.{step_named, step_goes, rest_named, own_alike, step_joins, step_updates, follows_none, follows_error, follows_referral, follows_rest, referral_named, rest_is_named, update_refused, alone_does, probed_named, probed_bounded, probed_missed, probed_ready, probed_does}
use Rattle.x5_serve.proofs.dispatch.+dispatch.Goals.{cast-in-Unheard+in_ok-clone-in-Unheard+in_ok-push-in-Unheard, cast-in-Hears+else-not-is_unable, gather-in-Unheard+in_ok-clone-in-Unheard+in_ok-leave_out-in-Unheard, gather-in-Hears+in-Joins+in_ok-take_up-in-Joins, gather-in-Hears+in-Leaves+in_ok-leave_out-in-Leaves, probe-in-Unheard+in_ok-clone-in-Unheard+in_ok-push-in-Unheard, probe-in-Hears+in-Unable, probe-in-Hears+in-Unsure+in_ok-clone-in-Unsure+in_ok-push-in-Unsure}
use Rattle.x5_serve.proofs.dispatch.+dispatch.Goals as goal

pub ask-returns-in-Spent-clause-does : goal.ask-returns-in-Spent-clause-does
ask-returns-in-Spent-clause-does g t c =
    let n = g.N.Network in
    λ o r e. ask_spent n.scene n.most n.names n.journal c.args.net.now c.carry.new.self c.args.from c.args.to
    c.args.message.now c.in_ok-carry.field-0 c.in_ok-carry.ensures.carried o r e c.limit_exceeded.result
    c.in-Spent.is c.limit_exceeded.ensures

pub ask-returns-in-Undelivered-clause-does : goal.ask-returns-in-Undelivered-clause-does
ask-returns-in-Undelivered-clause-does g t c =
    let n = g.N.Network in
    λ o r e. ask_lost n.scene n.most n.names n.journal c.args.net.now c.carry.new.self c.args.from c.args.to
    c.args.message.now c.in_ok-carry.field-0 c.in_ok-carry.ensures.carried o r e c.in-Undelivered.is

pub ask-returns-in_ok-serve-in-Unheard-clause-does : goal.ask-returns-in_ok-serve-in-Unheard-clause-does
ask-returns-in_ok-serve-in-Unheard-clause-does g t c =
    let n = g.N.Network in
    λ o r e. ask_dropped n.scene n.most n.names n.journal c.args.net.now c.carry.new.self c.args.from c.args.to
    c.args.message.now c.in_ok-carry.field-0 c.in_ok-carry.ensures.carried o r e c.serve.new.net c.in-Unheard.taken
    c.in_ok-serve-in-Unheard.field-0 c.in-Unheard.is c.in_ok-carry.ensures.stays
    c.in_ok-serve-in-Unheard.ensures.does

pub ask-carry_back-requires : goal.ask-carry_back-requires
ask-carry_back-requires g t c =
    let n = g.N.Network in
    let s1 = c.in_ok-carry.ensures.stays in
    let s2 = c.in_ok-reply-in-Taken.ensures.stays in
    let to = agent_stays n.scene n.most n.names n.journal c.args.net.now c.carry.new.self c.args.to s1 c.requires.to in
    let taken = taken_sent n.scene n.most n.names n.journal c.args.net.now c.carry.new.self c.in_ok-carry.field-0
    c.in-Taken.taken s1 c.in_ok-carry.ensures.taken c.in-Taken.is in
    back_replied n.scene n.most n.names n.journal c.carry.new.self c.serve-in-Taken.new.net c.args.to c.in-Taken.taken
    c.in_ok-reply-in-Taken.reply s2 c.in_ok-reply-in-Taken.ensures.does (code_view c.operation.result)
    (g.met.N.Network.bounded c.carry.new.self) to taken c.operation.ensures

pub ask-follow-requires : goal.ask-follow-requires
ask-follow-requires g t c κs within =
    let n = g.N.Network in
    let s1 = c.in_ok-carry.ensures.stays in
    let s2 = c.in_ok-reply-in-Taken.ensures.stays in
    let s = stays_on n.scene n.most n.names n.journal c.args.net.now c.carry.new.self c.serve-in-Taken.new.net s1 s2 in
    let less = taken_less n.scene n.most n.names n.journal c.args.net.now c.carry.new.self c.args.from c.args.to
    c.args.message.now c.in_ok-carry.field-0 c.in-Taken.taken c.in_ok-carry.ensures.carried c.in-Taken.is s1 in
    let is = taken_is n.scene n.most n.names n.journal c.args.net.now c.carry.new.self c.args.from c.args.to
    c.args.message.now c.in_ok-carry.field-0 c.in-Taken.taken c.in_ok-carry.ensures.carried c.in-Taken.is in
    let to = agent_stays n.scene n.most n.names n.journal c.args.net.now c.carry.new.self c.args.to s1 c.requires.to in
    let sender = agent_stays n.scene n.most n.names n.journal c.args.net.now c.serve-in-Taken.new.net c.args.from s
    c.requires.from in
    let receiver = agent_stays n.scene n.most n.names n.journal c.args.net.now c.serve-in-Taken.new.net c.args.to s
    c.requires.to in
    let user = user_taken n.scene n.most n.names n.journal c.args.net.now c.serve-in-Taken.new.net c.args.message.now
    c.in-Taken.taken s is c.requires.of_user in
    let told = back_told n.scene n.most n.names n.journal c.carry.new.self c.serve-in-Taken.new.net c.args.to
    c.in-Taken.taken c.in_ok-reply-in-Taken.reply c.in_ok-back-in-Taken.back (g.met.N.Network.knows
    c.carry.new.self) s2 to c.in_ok-reply-in-Taken.ensures.does c.in_ok-back-in-Taken.ensures in
    let taken = taken_sent n.scene n.most n.names n.journal c.args.net.now c.carry.new.self c.in_ok-carry.field-0
    c.in-Taken.taken s1 c.in_ok-carry.ensures.taken c.in-Taken.is in
    let sent = sent_stays n.scene n.most n.names n.journal c.carry.new.self c.serve-in-Taken.new.net c.in-Taken.taken s2
    taken in
    let passable = back_passable n.scene n.most n.names n.journal c.carry.new.self c.serve-in-Taken.new.net c.args.to
    c.in-Taken.taken c.in_ok-reply-in-Taken.reply s2 c.in_ok-reply-in-Taken.ensures.does c.in_ok-back-in-Taken.back
    c.in_ok-back-in-Taken.ensures in
    let replied = back_replied n.scene n.most n.names n.journal c.carry.new.self c.serve-in-Taken.new.net c.args.to
    c.in-Taken.taken c.in_ok-reply-in-Taken.reply s2 c.in_ok-reply-in-Taken.ensures.does
    (operation_of (body_view c.in-Taken.taken.request.body)) (g.met.N.Network.bounded c.carry.new.self) to taken refl in
    let bounded = back_bounded n.scene n.most n.names n.journal c.serve-in-Taken.new.net
    (operation_of (body_view c.in-Taken.taken.request.body)) c.in_ok-reply-in-Taken.reply c.in_ok-back-in-Taken.back
    replied c.in_ok-back-in-Taken.ensures in (
      omega (arith, less, c.in_ok-reply-in-Taken.ensures.left),
      (within, (sender, (receiver, (user, (told, (sent, (passable, bounded))))))),
    )

pub ask-returns-in_ok-follow-in-Taken-clause-does : goal.ask-returns-in_ok-follow-in-Taken-clause-does
ask-returns-in_ok-follow-in-Taken-clause-does g t c =
    let n = g.N.Network in
    λ o r e. ask_heard n.scene n.most n.names n.journal c.args.net.now c.carry.new.self c.args.from c.args.to
    c.args.message.now c.in_ok-carry.field-0 c.in_ok-carry.ensures.carried o r e c.serve-in-Taken.new.net
    c.follow.new.net c.in-Taken.taken c.in_ok-reply-in-Taken.reply c.in_ok-back-in-Taken.back
    c.in_ok-follow-in-Taken.field-0 c.in-Taken.is c.in_ok-carry.ensures.stays c.in_ok-reply-in-Taken.ensures.stays
    c.in_ok-reply-in-Taken.ensures.does c.in_ok-back-in-Taken.ensures c.in_ok-follow-in-Taken.ensures.does

pub ask-returns-in_ok-follow-in-Taken-clause-told : goal.ask-returns-in_ok-follow-in-Taken-clause-told
ask-returns-in_ok-follow-in-Taken-clause-told g t c =
    let n = g.N.Network in
    let s1 = c.in_ok-carry.ensures.stays in
    let s2 = c.in_ok-reply-in-Taken.ensures.stays in
    let s = stays_on n.scene n.most n.names n.journal c.args.net.now c.carry.new.self c.serve-in-Taken.new.net s1 s2 in
    let to = agent_stays n.scene n.most n.names n.journal c.args.net.now c.carry.new.self c.args.to s1 c.requires.to in
    let told = back_told n.scene n.most n.names n.journal c.carry.new.self c.serve-in-Taken.new.net c.args.to
    c.in-Taken.taken c.in_ok-reply-in-Taken.reply c.in_ok-back-in-Taken.back (g.met.N.Network.knows
    c.carry.new.self) s2 to c.in_ok-reply-in-Taken.ensures.does c.in_ok-back-in-Taken.ensures in
    last_told n.scene n.most n.names n.journal c.args.net.now c.serve-in-Taken.new.net c.follow.new.net c.args.from
    c.in-Taken.taken c.args.to c.in_ok-back-in-Taken.back c.in_ok-follow-in-Taken.field-0 (g.met.N.Network.knows
    c.serve-in-Taken.new.net) s c.in_ok-follow-in-Taken.ensures.does told

pub cast-loop-access-init : goal.cast-loop-access-init
cast-loop-access-init g t c =
    let n = g.N.Network in
    record {
      goes = first_goes n.scene n.most n.names n.journal c.args.net.now;
      carries = record {
        agents_are = c.as_slice-agents.ensures;
        onward_is = rw c.names.ensures at c.in_ok-onward.ensures.carried;
        sent = rw c.names.ensures at c.in_ok-onward.ensures.sent;
      };
      asked = rw c.new-noted.ensures none_asked;
    }

pub cast-agent_at-to-requires : goal.cast-agent_at-to-requires
cast-agent_at-to-requires g t c =
    let n = g.N.Network in
    next_agent n.scene n.most n.names n.journal c.args.net.now c.loop-access.net c.args.reference.now.agents
    c.as_slice-agents.result.now c.loop-access.access-index c.access-item.result c.loop-access.invariant.goes.stays
    c.loop-access.invariant.carries.agents_are c.loop-access-test.true c.access-item.is c.requires.agents

pub cast-ask-requires : goal.cast-ask-requires
cast-ask-requires g t c κs within =
    let n = g.N.Network in
    let i = c.loop-access.invariant in
    let there = next_agent n.scene n.most n.names n.journal c.args.net.now c.loop-access.net c.args.reference.now.agents
    c.as_slice-agents.result.now c.loop-access.access-index c.access-item.result i.goes.stays i.carries.agents_are
    c.loop-access-test.true c.access-item.is c.requires.agents in
    let sender = agent_stays n.scene n.most n.names n.journal c.args.net.now c.loop-access.net c.args.from i.goes.stays
    c.requires.from in
    let receiver = next_to n.scene n.most n.names n.journal c.loop-access.net c.access-item.result c.agent_at-to.result
    c.agent_at-to.ensures there in
    let user = user_onward n.scene n.most n.names n.journal c.args.net.now c.loop-access.net c.args.owner
    c.args.message.now c.args.reference.now c.in_ok-onward.onward c.as_slice-agents.result.now i.goes.stays
    i.carries c.requires.of_user in
    let sent = sent_stays n.scene n.most n.names n.journal c.args.net.now c.loop-access.net c.in_ok-onward.onward i.goes.stays
    i.carries.sent in
    (omega (arith, i.goes.left), (within, (sender, (receiver, (user, sent)))))

pub cast-returns-in_err-ask-clause-stays : goal.cast-returns-in_err-ask-clause-stays
cast-returns-in_err-ask-clause-stays g t c =
    let n = g.N.Network in
    stays_on n.scene n.most n.names n.journal c.args.net.now c.loop-access.net c.ask.new.net
    c.loop-access.invariant.goes.stays c.ask.ensures.stays

pub cast-returns-in_err-ask-clause-left : goal.cast-returns-in_err-ask-clause-left
cast-returns-in_err-ask-clause-left g t c =
    let n = g.N.Network in
    omega (arith, c.loop-access.invariant.goes.left, c.ask.ensures.left)

pub cast-returns-in_err-clone-in-Unheard-clause-stays : goal.cast-returns-in_err-clone-in-Unheard-clause-stays
cast-returns-in_err-clone-in-Unheard-clause-stays g t c =
    let n = g.N.Network in
    stays_on n.scene n.most n.names n.journal c.args.net.now c.loop-access.net c.ask.new.net
    c.loop-access.invariant.goes.stays c.ask.ensures.stays

pub cast-returns-in_err-clone-in-Unheard-clause-left : goal.cast-returns-in_err-clone-in-Unheard-clause-left
cast-returns-in_err-clone-in-Unheard-clause-left g t c =
    let n = g.N.Network in
    omega (arith, c.loop-access.invariant.goes.left, c.ask.ensures.left)

pub cast-returns-in_err-push-in-Unheard-clause-stays : goal.cast-returns-in_err-push-in-Unheard-clause-stays
cast-returns-in_err-push-in-Unheard-clause-stays g t c =
    let n = g.N.Network in
    stays_on n.scene n.most n.names n.journal c.args.net.now c.loop-access.net c.ask.new.net
    c.loop-access.invariant.goes.stays c.ask.ensures.stays

pub cast-returns-in_err-push-in-Unheard-clause-left : goal.cast-returns-in_err-push-in-Unheard-clause-left
cast-returns-in_err-push-in-Unheard-clause-left g t c =
    let n = g.N.Network in
    omega (arith, c.loop-access.invariant.goes.left, c.ask.ensures.left)

pub cast-returns-then-not-is_unable-clause-stays : goal.cast-returns-then-not-is_unable-clause-stays
cast-returns-then-not-is_unable-clause-stays g t c =
    let n = g.N.Network in
    stays_on n.scene n.most n.names n.journal c.args.net.now c.loop-access.net c.ask.new.net
    c.loop-access.invariant.goes.stays c.ask.ensures.stays

pub cast-returns-then-not-is_unable-clause-left : goal.cast-returns-then-not-is_unable-clause-left
cast-returns-then-not-is_unable-clause-left g t c =
    let n = g.N.Network in
    omega (arith, c.loop-access.invariant.goes.left, c.ask.ensures.left)

pub cast-returns-then-not-is_unable-clause-does : goal.cast-returns-then-not-is_unable-clause-does
cast-returns-then-not-is_unable-clause-does g t c =
    let n = g.N.Network in
    let i = c.loop-access.invariant in
    cast_answered n.scene n.most n.names n.journal c.args.net.now c.loop-access.net c.ask.new.net c.args.from
    c.as_slice-agents.result.now c.in_ok-onward.onward c.loop-access.access-index c.access-item.result
    c.agent_at-to.result c.in_ok-ask.field-0 i.goes.stays c.loop-access-test.true c.access-item.is
    c.agent_at-to.ensures c.in_ok-ask.ensures.does c.args.owner c.args.message.now c.args.reference.now
    c.loop-access.noted c.loop-access.noted i.carries i.asked c.in-Hears.reply c.in-Hears.is
    (sym (c.is_unable.ensures (n.names c.args.net.now)) ∙ c.if-not-is_unable.true)

pub cast-loop-access-preserved : goal.cast-loop-access-preserved
cast-loop-access-preserved g t c =
    let n = g.N.Network in
    let i = c.loop-access.invariant in
    record {
      goes = goes_on n.scene n.most n.names n.journal c.args.net.now c.loop-access.net c.ask.new.net i.goes
          c.ask.ensures.stays c.ask.ensures.left;
      carries = i.carries;
      asked = elim c.match-branch-3.branch [
        | cast-in-Unheard+in_ok-clone-in-Unheard+in_ok-push-in-Unheard w ↦
            let more : c.match-branch-3.noted ≡ c.loop-access.noted ++ c.access-item.result ∷ [] = search rules in
            cast_silent n.scene n.most n.names n.journal c.args.net.now c.loop-access.net c.ask.new.net c.args.from
            c.as_slice-agents.result.now c.in_ok-onward.onward c.loop-access.access-index c.access-item.result
            c.agent_at-to.result c.in_ok-ask.field-0 i.goes.stays c.loop-access-test.true c.access-item.is
            c.agent_at-to.ensures c.in_ok-ask.ensures.does c.args.owner c.args.message.now c.args.reference.now
            c.loop-access.noted c.match-branch-3.noted i.carries i.asked w.in-Unheard.is more
        | cast-in-Hears+else-not-is_unable w ↦
            let more : c.match-branch-3.noted ≡ c.loop-access.noted = w.noted-is in
            cast_unable n.scene n.most n.names n.journal c.args.net.now c.loop-access.net c.ask.new.net c.args.from
            c.as_slice-agents.result.now c.in_ok-onward.onward c.loop-access.access-index c.access-item.result
            c.agent_at-to.result c.in_ok-ask.field-0 i.goes.stays c.loop-access-test.true c.access-item.is
            c.agent_at-to.ensures c.in_ok-ask.ensures.does c.args.owner c.args.message.now c.args.reference.now
            c.loop-access.noted c.match-branch-3.noted i.carries i.asked w.in-Hears.reply w.in-Hears.is
            (sym (w.is_unable.ensures (n.names c.args.net.now)) ∙ w.if-not-is_unable.false) more
      ];
    }

pub cast-returns-then-len-eq0-clause-stays : goal.cast-returns-then-len-eq0-clause-stays
cast-returns-then-len-eq0-clause-stays g t c =
    let n = g.N.Network in
    c.loop-access.invariant.goes.stays

pub cast-returns-then-len-eq0-clause-left : goal.cast-returns-then-len-eq0-clause-left
cast-returns-then-len-eq0-clause-left g t c =
    let n = g.N.Network in
    c.loop-access.invariant.goes.left

pub cast-returns-clause-stays : goal.cast-returns-clause-stays
cast-returns-clause-stays g t c =
    let n = g.N.Network in
    c.loop-access.invariant.goes.stays

pub cast-returns-clause-left : goal.cast-returns-clause-left
cast-returns-clause-left g t c =
    let n = g.N.Network in
    c.loop-access.invariant.goes.left

pub cast-returns-then-len-eq0-clause-does : goal.cast-returns-then-len-eq0-clause-does
cast-returns-then-len-eq0-clause-does g t c =
    let n = g.N.Network in
    let i = c.loop-access.invariant in
    IfOk-weaker c.nobody_has.result _ _ (λ y f. cast_nobody n.scene n.most n.names n.journal c.args.net.now
    c.loop-access.net c.as_slice-agents.result.now c.loop-access.access-index
    (omega (arith, c.loop-access-test.false)) c.args.from c.args.owner c.args.message.now c.in_ok-onward.onward
    c.args.reference.now c.loop-access.noted i.carries i.asked y (omega (arith, c.len.ensures, c.if-len-eq0.true))
    f) c.nobody_has.ensures

pub cast-returns-clause-does : goal.cast-returns-clause-does
cast-returns-clause-does g t c =
    let n = g.N.Network in
    let i = c.loop-access.invariant in
    IfOk-weaker c.unavailable_of.result _ _ (λ y f. cast_some n.scene n.most n.names n.journal c.args.net.now
    c.loop-access.net c.as_slice-agents.result.now c.loop-access.access-index
    (omega (arith, c.loop-access-test.false)) c.args.from c.args.owner c.args.message.now c.in_ok-onward.onward
    c.args.reference.now c.loop-access.noted i.carries i.asked y
    (λ e. omega (arith, c.len.ensures, c.if-len-eq0.false, e)) f) c.unavailable_of.ensures

pub probe-loop-access-init : goal.probe-loop-access-init
probe-loop-access-init g t c =
    let n = g.N.Network in
    record {
      goes = first_goes n.scene n.most n.names n.journal c.args.net.now;
      carries = record {
        agents_are = c.as_slice-agents.ensures;
        onward_is = rw c.names.ensures at c.in_ok-onward.ensures.carried;
        sent = rw c.names.ensures at c.in_ok-onward.ensures.sent;
      };
      probed = rw c.new-noted.ensures no_probe;
    }

pub probe-agent_at-to-requires : goal.probe-agent_at-to-requires
probe-agent_at-to-requires g t c =
    let n = g.N.Network in
    next_agent n.scene n.most n.names n.journal c.args.net.now c.loop-access.net c.args.reference.now.agents
    c.as_slice-agents.result.now c.loop-access.access-index c.access-item.result c.loop-access.invariant.goes.stays
    c.loop-access.invariant.carries.agents_are c.loop-access-test.true c.access-item.is c.requires.agents

pub probe-ask-requires : goal.probe-ask-requires
probe-ask-requires g t c κs within =
    let n = g.N.Network in
    let i = c.loop-access.invariant in
    let there = next_agent n.scene n.most n.names n.journal c.args.net.now c.loop-access.net c.args.reference.now.agents
    c.as_slice-agents.result.now c.loop-access.access-index c.access-item.result i.goes.stays i.carries.agents_are
    c.loop-access-test.true c.access-item.is c.requires.agents in
    let sender = agent_stays n.scene n.most n.names n.journal c.args.net.now c.loop-access.net c.args.me i.goes.stays
    c.requires.there in
    let receiver = next_to n.scene n.most n.names n.journal c.loop-access.net c.access-item.result c.agent_at-to.result
    c.agent_at-to.ensures there in
    let user = user_onward n.scene n.most n.names n.journal c.args.net.now c.loop-access.net c.args.me
    c.args.message.now c.args.reference.now c.in_ok-onward.onward c.as_slice-agents.result.now i.goes.stays
    i.carries c.requires.of_user in
    let sent = sent_stays n.scene n.most n.names n.journal c.args.net.now c.loop-access.net c.in_ok-onward.onward i.goes.stays
    i.carries.sent in
    (omega (arith, i.goes.left), (within, (sender, (receiver, (user, sent)))))

pub probe-returns-in-Ends-clause-does : goal.probe-returns-in-Ends-clause-does
probe-returns-in-Ends-clause-does g t c =
    let n = g.N.Network in
    let i = c.loop-access.invariant in
    probe_ends n.scene n.most n.names n.journal c.args.net.now c.loop-access.net c.ask.new.net c.args.me
    c.as_slice-agents.result.now c.in_ok-onward.onward c.loop-access.access-index c.access-item.result
    c.agent_at-to.result c.in_ok-ask.field-0 i.goes.stays c.loop-access-test.true c.access-item.is
    c.agent_at-to.ensures c.in_ok-ask.ensures.does c.args.message.now c.args.reference.now c.loop-access.noted
    c.loop-access.noted i.carries i.probed c.in-Hears.reply c.told_by.result c.in-Ends.error c.in-Hears.is
    c.in-Ends.is c.told_by.ensures

pub probe-loop-access-preserved : goal.probe-loop-access-preserved
probe-loop-access-preserved g t c =
    let n = g.N.Network in
    let i = c.loop-access.invariant in
    record {
      goes = goes_on n.scene n.most n.names n.journal c.args.net.now c.loop-access.net c.ask.new.net i.goes
          c.ask.ensures.stays c.ask.ensures.left;
      carries = i.carries;
      probed = elim c.match-branch-3.branch [
        | probe-in-Unheard+in_ok-clone-in-Unheard+in_ok-push-in-Unheard w ↦
            let more : c.match-branch-3.noted ≡ c.loop-access.noted ++ c.access-item.result ∷ [] = search rules in
            probe_unheard n.scene n.most n.names n.journal c.args.net.now c.loop-access.net c.ask.new.net c.args.me
            c.as_slice-agents.result.now c.in_ok-onward.onward c.loop-access.access-index c.access-item.result
            c.agent_at-to.result c.in_ok-ask.field-0 i.goes.stays c.loop-access-test.true c.access-item.is
            c.agent_at-to.ensures c.in_ok-ask.ensures.does c.args.message.now c.args.reference.now
            c.loop-access.noted c.match-branch-3.noted i.carries i.probed w.in-Unheard.is more
        | probe-in-Hears+in-Unable w ↦
            let more : c.match-branch-3.noted ≡ c.loop-access.noted = w.noted-is in
            probe_passed n.scene n.most n.names n.journal c.args.net.now c.loop-access.net c.ask.new.net c.args.me
            c.as_slice-agents.result.now c.in_ok-onward.onward c.loop-access.access-index c.access-item.result
            c.agent_at-to.result c.in_ok-ask.field-0 i.goes.stays c.loop-access-test.true c.access-item.is
            c.agent_at-to.ensures c.in_ok-ask.ensures.does c.args.message.now c.args.reference.now
            c.loop-access.noted c.match-branch-3.noted i.carries i.probed w.in-Hears.reply w.told_by.result
            w.in-Hears.is w.in-Unable.is w.told_by.ensures more
        | probe-in-Hears+in-Unsure+in_ok-clone-in-Unsure+in_ok-push-in-Unsure w ↦
            let more : c.match-branch-3.noted ≡ c.loop-access.noted ++ c.access-item.result ∷ [] = search rules in
            probe_noted n.scene n.most n.names n.journal c.args.net.now c.loop-access.net c.ask.new.net c.args.me
            c.as_slice-agents.result.now c.in_ok-onward.onward c.loop-access.access-index c.access-item.result
            c.agent_at-to.result c.in_ok-ask.field-0 i.goes.stays c.loop-access-test.true c.access-item.is
            c.agent_at-to.ensures c.in_ok-ask.ensures.does c.args.message.now c.args.reference.now
            c.loop-access.noted c.match-branch-3.noted i.carries i.probed w.in-Hears.reply w.told_by.result
            w.in-Hears.is w.in-Unsure.is w.told_by.ensures more
      ];
    }

pub probe-returns-clause-does : goal.probe-returns-clause-does
probe-returns-clause-does g t c =
    let n = g.N.Network in
    let i = c.loop-access.invariant in
    probe_through n.scene n.most n.names n.journal c.args.net.now c.loop-access.net c.as_slice-agents.result.now
    c.loop-access.access-index (omega (arith, c.loop-access-test.false)) c.args.me c.args.message.now
    c.in_ok-onward.onward c.args.reference.now c.loop-access.noted i.carries i.probed

pub take-take_in_turn-heard-requires : goal.take-take_in_turn-heard-requires
take-take_in_turn-heard-requires g t c κs within =
    let n = g.N.Network in
    let carries : Carries (n.names c.args.net.now) c.args.owner c.args.message.now c.args.reference.now
    c.in_ok-onward.onward c.as_slice.result.now = record {
      agents_are = c.as_slice.ensures;
      onward_is = rw c.names.ensures at c.in_ok-onward.ensures.carried;
      sent = rw c.names.ensures at c.in_ok-onward.ensures.sent;
    } in
    let user = user_onward n.scene n.most n.names n.journal c.args.net.now c.args.net.now c.args.owner
    c.args.message.now c.args.reference.now c.in_ok-onward.onward c.as_slice.result.now (no_change n.scene n.most
    n.names n.journal c.args.net.now) carries c.requires.of_user in
    (omega arith, (within, (c.requires.from, (user, (rw c.as_slice.ensures c.requires.agents, carries.sent)))))

pub take-returns-clause-does : goal.take-returns-clause-does
take-returns-clause-does g t c =
    let n = g.N.Network in
    let onward = rw c.names.ensures at c.in_ok-onward.ensures.carried in
    IfOk-weaker c.take_in_turn-heard.result _ _ (λ y d. d (hand c.args.owner (chained_view (n.names c.args.net.now)
    c.args.message.now)) (reference_view (n.names c.args.net.now) c.args.reference.now)
    (ap (map (access_view (n.names c.args.net.now))) c.as_slice.ensures) (onward c.args.from))
    c.take_in_turn-heard.ensures.does

pub take_in_turn-loop-access-init : goal.take_in_turn-loop-access-init
take_in_turn-loop-access-init g t c =
    let n = g.N.Network in
    record { goes = first_goes n.scene n.most n.names n.journal c.args.net.now; tried = λ o r agents e. none_yet }

pub take_in_turn-agent_at-to-requires : goal.take_in_turn-agent_at-to-requires
take_in_turn-agent_at-to-requires g t c =
    let n = g.N.Network in
    let i = c.loop-access.invariant in
    next_agent n.scene n.most n.names n.journal c.args.net.now c.loop-access.net c.args.agents.now c.args.agents.now
    c.loop-access.access-index c.access-item.result i.goes.stays refl c.loop-access-test.true c.access-item.is
    c.requires.agents

pub take_in_turn-ask-requires : goal.take_in_turn-ask-requires
take_in_turn-ask-requires g t c κs within =
    let n = g.N.Network in
    let i = c.loop-access.invariant in
    let there = next_agent n.scene n.most n.names n.journal c.args.net.now c.loop-access.net c.args.agents.now
    c.args.agents.now c.loop-access.access-index c.access-item.result i.goes.stays refl c.loop-access-test.true
    c.access-item.is c.requires.agents in
    let sender = agent_stays n.scene n.most n.names n.journal c.args.net.now c.loop-access.net c.args.from i.goes.stays
    c.requires.from in
    let receiver = next_to n.scene n.most n.names n.journal c.loop-access.net c.access-item.result c.agent_at-to.result
    c.agent_at-to.ensures there in
    let user = user_stays n.scene n.most n.names n.journal c.args.net.now c.loop-access.net c.args.onward.now
    i.goes.stays c.requires.of_user in
    let sent = sent_stays n.scene n.most n.names n.journal c.args.net.now c.loop-access.net c.args.onward.now i.goes.stays
    c.requires.sent in
    (omega (arith, i.goes.left), (within, (sender, (receiver, (user, sent)))))

pub take_in_turn-returns-then-is_heard-clause-does : goal.take_in_turn-returns-then-is_heard-clause-does
take_in_turn-returns-then-is_heard-clause-does g t c =
    let n = g.N.Network in
    let i = c.loop-access.invariant in
    let w = subst (IsHeardBy (heard_view (n.names c.args.net.now) c.in_ok-heard.heard)) c.if-is_heard.true
    (c.is_heard.ensures (n.names c.args.net.now)) in
    λ o r agents e. turn_heard n.scene n.most n.names n.journal c.args.net.now c.loop-access.net c.ask.new.net
    c.args.from c.args.agents.now c.args.onward.now c.loop-access.access-index c.access-item.result
    c.agent_at-to.result c.in_ok-heard.heard i.goes.stays c.loop-access-test.true c.access-item.is
    c.agent_at-to.ensures c.in_ok-heard.ensures.does o r agents e w (i.tried o r agents e)

pub take_in_turn-loop-access-preserved : goal.take_in_turn-loop-access-preserved
take_in_turn-loop-access-preserved g t c =
    let n = g.N.Network in
    let i = c.loop-access.invariant in
    let w = subst (IsHeardBy (heard_view (n.names c.args.net.now) c.in_ok-heard.heard)) c.if-is_heard.false
    (c.is_heard.ensures (n.names c.args.net.now)) in
    record {
      goes = goes_on n.scene n.most n.names n.journal c.args.net.now c.loop-access.net c.ask.new.net i.goes
          c.in_ok-heard.ensures.stays c.in_ok-heard.ensures.left;
      tried = λ o r agents e. turn_in_vain n.scene n.most n.names n.journal c.args.net.now c.loop-access.net
          c.ask.new.net c.args.from c.args.agents.now c.args.onward.now c.loop-access.access-index c.access-item.result
          c.agent_at-to.result c.in_ok-heard.heard i.goes.stays c.loop-access-test.true c.access-item.is
          c.agent_at-to.ensures c.in_ok-heard.ensures.does o r agents e w (i.tried o r agents e);
    }

pub take_in_turn-returns-clause-does : goal.take_in_turn-returns-clause-does
take_in_turn-returns-clause-does g t c =
    let n = g.N.Network in
    let i = c.loop-access.invariant in
    λ o r agents e. turn_unheard n.scene n.most n.names n.journal c.args.net.now c.loop-access.net c.args.agents.now
    c.loop-access.access-index (omega (arith, c.loop-access-test.false)) c.args.from o r agents (i.tried o r agents
    e)

pub gather-loop-reference-init : goal.gather-loop-reference-init
gather-loop-reference-init g t c =
    let n = g.N.Network in
    let is : c.push.new.self.items ≡ c.args.first ∷ [] = search rules in
    record {
      goes = first_goes n.scene n.most n.names n.journal c.args.net.now;
      asked_are = c.as_slice-asked.ensures;
      filled = omega (arith, ap length is);
      alike = rw is c.requires.alike;
      gathered = first_part n.scene n.most n.names n.journal c.args.net.now c.args.from c.args.owner c.args.message.now
          c.args.first c.push.new.self.items is;
    }

pub gather-take-requires : goal.gather-take-requires
gather-take-requires g t c κs within =
    let n = g.N.Network in
    let i = c.loop-reference.invariant in
    let sender = agent_stays n.scene n.most n.names n.journal c.args.net.now c.loop-reference.net c.args.from
    i.goes.stays c.requires.from in
    let opener = agent_stays n.scene n.most n.names n.journal c.args.net.now c.loop-reference.net c.args.owner
    i.goes.stays c.requires.owner in
    let user = user_stays n.scene n.most n.names n.journal c.args.net.now c.loop-reference.net c.args.message.now
    i.goes.stays c.requires.of_user in
    let agents = next_reference n.scene n.most n.names n.journal c.args.net.now c.loop-reference.net
    c.args.references.now c.as_slice-asked.result.now c.loop-reference.reference-index c.reference-item.result
    i.goes.stays i.asked_are c.loop-reference-test.true c.reference-item.is c.requires.agents in
    let sent = sent_stays n.scene n.most n.names n.journal c.args.net.now c.loop-reference.net c.args.message.now
    i.goes.stays c.requires.sent in
    let passable = passable_stays n.scene n.most n.names n.journal c.args.net.now c.loop-reference.net c.args.owner
    c.args.message.now i.goes.stays c.requires.passable in
    let bounded = next_bounded n.scene n.most n.names n.journal c.args.net.now c.loop-reference.net
    c.args.references.now c.as_slice-asked.result.now c.loop-reference.reference-index c.reference-item.result
    i.goes.stays i.asked_are c.loop-reference-test.true c.reference-item.is c.requires.bounded in
    (omega (arith, i.goes.left), (within, (sender, (opener, (user, (agents, (sent, (passable, bounded))))))))

pub gather-returns-in-Breaks-clause-does : goal.gather-returns-in-Breaks-clause-does
gather-returns-in-Breaks-clause-does g t c =
    let n = g.N.Network in
    let i = c.loop-reference.invariant in
    part_ends n.scene n.most n.names n.journal c.args.net.now c.loop-reference.net c.take.new.net c.args.from
    c.args.owner c.args.message.now c.args.first c.as_slice-asked.result.now c.loop-reference.reference-index
    c.reference-item.result c.in_ok-take.field-0 c.loop-reference.parts.items c.loop-reference.parts.items
    i.goes.stays c.loop-reference-test.true c.reference-item.is c.in_ok-take.ensures.does c.in_ok-take.ensures.told
    i.gathered c.args.references.now c.in-Hears.reply c.part_of.result c.in-Breaks.error i.asked_are c.in-Hears.is
    c.in-Breaks.is c.part_of.ensures

pub gather-loop-reference-preserved : goal.gather-loop-reference-preserved
gather-loop-reference-preserved g t c =
    let n = g.N.Network in
    let i = c.loop-reference.invariant in
    record {
      goes = goes_on n.scene n.most n.names n.journal c.args.net.now c.loop-reference.net c.take.new.net i.goes
          c.take.ensures.stays c.take.ensures.left;
      asked_are = i.asked_are;
      filled = elim c.match-branch-3.branch [
        | gather-in-Unheard+in_ok-clone-in-Unheard+in_ok-leave_out-in-Unheard w ↦ rw w.parts-is
            w.in_ok-leave_out-in-Unheard.ensures.filled
        | gather-in-Hears+in-Joins+in_ok-take_up-in-Joins w ↦ rw w.parts-is w.in_ok-take_up-in-Joins.ensures.filled
        | gather-in-Hears+in-Leaves+in_ok-leave_out-in-Leaves w ↦ rw w.parts-is
            w.in_ok-leave_out-in-Leaves.ensures.filled
      ];
      alike = elim c.match-branch-3.branch [
        | gather-in-Unheard+in_ok-clone-in-Unheard+in_ok-leave_out-in-Unheard w ↦ rw w.parts-is
            w.in_ok-leave_out-in-Unheard.ensures.alike
        | gather-in-Hears+in-Joins+in_ok-take_up-in-Joins w ↦ rw w.parts-is w.in_ok-take_up-in-Joins.ensures.alike
        | gather-in-Hears+in-Leaves+in_ok-leave_out-in-Leaves w ↦ rw w.parts-is
            w.in_ok-leave_out-in-Leaves.ensures.alike
      ];
      gathered = elim c.match-branch-3.branch [
        | gather-in-Unheard+in_ok-clone-in-Unheard+in_ok-leave_out-in-Unheard w ↦
            let same : w.in_ok-clone-in-Unheard.field-0 ≡ c.reference-item.result = search rules in
            let view = rw same at w.in_ok-leave_out-in-Unheard.ensures.view in
            part_lost n.scene n.most n.names n.journal c.args.net.now c.loop-reference.net c.take.new.net c.args.from
            c.args.owner c.args.message.now c.args.first c.as_slice-asked.result.now
            c.loop-reference.reference-index c.reference-item.result c.in_ok-take.field-0
            c.loop-reference.parts.items c.match-branch-3.parts.items i.goes.stays c.loop-reference-test.true
            c.reference-item.is c.in_ok-take.ensures.does c.in_ok-take.ensures.told i.gathered w.in-Unheard.is
            (rw w.parts-is view)
        | gather-in-Hears+in-Joins+in_ok-take_up-in-Joins w ↦
            part_joins n.scene n.most n.names n.journal c.args.net.now c.loop-reference.net c.take.new.net c.args.from
            c.args.owner c.args.message.now c.args.first c.as_slice-asked.result.now
            c.loop-reference.reference-index c.reference-item.result c.in_ok-take.field-0
            c.loop-reference.parts.items c.match-branch-3.parts.items i.goes.stays c.loop-reference-test.true
            c.reference-item.is c.in_ok-take.ensures.does c.in_ok-take.ensures.told i.gathered w.in-Hears.reply
            w.part_of.result w.in-Joins.answer w.in-Hears.is w.in-Joins.is w.part_of.ensures
            (rw w.parts-is w.in_ok-take_up-in-Joins.ensures.view)
        | gather-in-Hears+in-Leaves+in_ok-leave_out-in-Leaves w ↦
            part_leaves n.scene n.most n.names n.journal c.args.net.now c.loop-reference.net c.take.new.net c.args.from
            c.args.owner c.args.message.now c.args.first c.as_slice-asked.result.now
            c.loop-reference.reference-index c.reference-item.result c.in_ok-take.field-0
            c.loop-reference.parts.items c.match-branch-3.parts.items i.goes.stays c.loop-reference-test.true
            c.reference-item.is c.in_ok-take.ensures.does c.in_ok-take.ensures.told i.gathered w.in-Hears.reply
            w.part_of.result w.in-Leaves.left w.in-Hears.is w.in-Leaves.is w.part_of.ensures
            (rw w.parts-is w.in_ok-leave_out-in-Leaves.ensures.view)
      ];
    }

pub serve-go-requires : goal.serve-go-requires
serve-go-requires g t c κs within =
    let n = g.N.Network in
    let agents = step_named n.scene n.most n.names n.journal c.args.net.now c.args.me c.args.message.now
    c.in_ok-reply.field-0 c.in_ok-reply.ensures c.in-Goes.reference c.in-Goes.is (g.met.N.Network.knows
    c.args.net.now) c.requires.there in
    let passable = goes_passable n.scene n.most n.names n.journal c.args.net.now c.args.me c.args.message.now
    c.in_ok-reply.field-0 c.in_ok-reply.ensures (g.met.N.Network.bounded c.args.net.now) c.requires.there
    c.requires.sent c.in-Goes.reference c.in-Goes.is in
    let bounded = goes_bounded n.scene n.most n.names n.journal c.args.net.now c.args.me c.args.message.now
    c.in_ok-reply.field-0 c.in_ok-reply.ensures (g.met.N.Network.bounded c.args.net.now) c.requires.there
    c.requires.sent c.in-Goes.reference c.in-Goes.is in
    (omega arith, (within, (c.requires.there, (c.requires.there, (c.requires.of_user, (agents, (c.requires.sent, (passable, bounded))))))))

pub serve-gather-requires : goal.serve-gather-requires
serve-gather-requires g t c κs within =
    let n = g.N.Network in
    let agents = rest_named n.scene n.most n.names n.journal c.args.net.now c.args.me c.args.message.now
    c.in_ok-reply.field-0 c.in_ok-reply.ensures c.in-Joins.answer c.in-Joins.references c.in-Joins.is
    (g.met.N.Network.knows c.args.net.now) c.requires.there in
    let alike = own_alike n.scene n.most n.names n.journal c.args.net.now c.args.me c.args.message.now
    c.in_ok-reply.field-0 c.in_ok-reply.ensures c.in-Joins.answer c.in-Joins.references c.in-Joins.is in
    let passable = joins_passable n.scene n.most n.names n.journal c.args.net.now c.args.me c.args.message.now
    c.in_ok-reply.field-0 c.in_ok-reply.ensures (g.met.N.Network.bounded c.args.net.now) c.requires.there
    c.requires.sent c.in-Joins.answer c.in-Joins.references c.in-Joins.is in
    let bounded = joins_bounded n.scene n.most n.names n.journal c.args.net.now c.args.me c.args.message.now
    c.in_ok-reply.field-0 c.in_ok-reply.ensures (g.met.N.Network.bounded c.args.net.now) c.requires.there
    c.requires.sent c.in-Joins.answer c.in-Joins.references c.in-Joins.is in
    (omega arith, (within, (c.requires.there, (c.requires.there, (c.requires.of_user, (agents, (alike, (c.requires.sent, (passable, bounded)))))))))

pub serve-returns-in-Goes-clause-does : goal.serve-returns-in-Goes-clause-does
serve-returns-in-Goes-clause-does g t c =
    let n = g.N.Network in
    IfOk-weaker c.go.result _ _ (λ y d. step_goes n.scene n.most n.names n.journal c.args.net.now c.args.me
    c.args.message.now c.in_ok-reply.field-0 c.in_ok-reply.ensures c.go.new.net c.in-Goes.reference y c.in-Goes.is
    d) c.go.ensures.does

pub serve-returns-in_ok-gathered-in-Joins-clause-does : goal.serve-returns-in_ok-gathered-in-Joins-clause-does
serve-returns-in_ok-gathered-in-Joins-clause-does g t c =
    let n = g.N.Network in
    step_joins n.scene n.most n.names n.journal c.args.net.now c.args.me c.args.message.now c.in_ok-reply.field-0
    c.in_ok-reply.ensures c.gather.new.net c.in-Joins.answer c.in-Joins.references
    c.in_ok-gathered-in-Joins.gathered c.finished.result c.in-Joins.is c.finished.ensures
    c.in_ok-gathered-in-Joins.ensures.does

pub serve-returns-in-Updates-clause-does : goal.serve-returns-in-Updates-clause-does
serve-returns-in-Updates-clause-does g t c =
    let n = g.N.Network in
    IfOk-weaker c.update.result _ _ (λ y d. step_updates n.scene n.most n.names n.journal c.args.net.now c.args.me
    c.args.message.now c.in_ok-reply.field-0 c.in_ok-reply.ensures c.update.new.net y c.in-Updates.is d)
    c.update.ensures.does

pub follow-returns-then-len-eq0-clause-does : goal.follow-returns-then-len-eq0-clause-does
follow-returns-then-len-eq0-clause-does g t c =
    let n = g.N.Network in
    follows_none n.scene n.most n.names n.journal c.args.net.now c.args.from c.args.owner c.args.message.now
    c.args.reply c.in-Done.answer c.in_ok-references-in-Done.references c.in-Done.is
    (omega (arith, c.len.ensures, c.if-len-eq0.true)) c.in_ok-references-in-Done.ensures.view

pub follow-go-requires : goal.follow-go-requires
follow-go-requires g t c κs within =
    let n = g.N.Network in
    let agents = referral_named n.scene n.most n.names n.journal c.args.net.now c.args.from c.args.owner
    c.args.message.now c.args.reply c.in-Refer.reference c.in-Refer.is c.requires.told in
    let passable = referral_passable n.scene n.most n.names n.journal c.args.net.now c.args.owner c.args.message.now
    c.args.reply c.requires.passable c.requires.bounded c.in-Refer.reference c.in-Refer.is in
    let bounded = referral_bounded n.scene n.most n.names n.journal c.args.net.now c.args.owner c.args.message.now
    c.args.reply c.requires.passable c.requires.bounded c.in-Refer.reference c.in-Refer.is in (
      omega arith,
      (within, (c.requires.from, (c.requires.owner, (c.requires.of_user, (agents, (c.requires.sent, (passable, bounded))))))),
    )

pub follow-gather-requires : goal.follow-gather-requires
follow-gather-requires g t c κs within =
    let n = g.N.Network in
    let some : 0 < length c.in_ok-references-in-Done.references = omega (arith, c.len.ensures, c.if-len-eq0.false) in
    let agents = rest_is_named n.scene n.most n.names n.journal c.args.net.now c.args.from c.args.owner
    c.args.message.now c.args.reply c.in-Done.answer c.in_ok-references-in-Done.references c.in-Done.is
    c.requires.told c.in_ok-references-in-Done.ensures.view in
    let alike = c.in_ok-rest-in-Done.ensures.kind (c.in_ok-references-in-Done.ensures.kind some) in
    let passable = rest_passable n.scene n.most n.names n.journal c.args.net.now c.args.owner c.args.message.now c.args.reply
    c.requires.passable c.requires.bounded c.in-Done.answer c.in_ok-references-in-Done.references c.in-Done.is
    c.in_ok-references-in-Done.ensures.view
    (λ e. omega (arith, c.len.ensures, c.if-len-eq0.false, e)) in
    let bounded = rest_bounded n.scene n.most n.names n.journal c.args.net.now c.args.owner c.args.message.now c.args.reply
    c.requires.passable c.requires.bounded c.in-Done.answer c.in_ok-references-in-Done.references c.in-Done.is
    c.in_ok-references-in-Done.ensures.view in
    (omega arith, (within, (c.requires.from, (c.requires.owner, (c.requires.of_user, (agents, (alike, (c.requires.sent, (passable, bounded)))))))))

pub follow-returns-in-Failed-clause-does : goal.follow-returns-in-Failed-clause-does
follow-returns-in-Failed-clause-does g t c =
    let n = g.N.Network in
    follows_error n.scene n.most n.names n.journal c.args.net.now c.args.from c.args.owner c.args.message.now
    c.args.reply c.in-Failed.error c.in-Failed.is

pub follow-returns-in-Refer-clause-does : goal.follow-returns-in-Refer-clause-does
follow-returns-in-Refer-clause-does g t c =
    let n = g.N.Network in
    IfOk-weaker c.go.result _ _ (λ y d. follows_referral n.scene n.most n.names n.journal c.args.net.now c.args.from
    c.args.owner c.args.message.now c.args.reply c.go.new.net c.in-Refer.reference y c.in-Refer.is d)
    c.go.ensures.does

pub follow-returns-in_ok-gathered-in-Done-clause-does : goal.follow-returns-in_ok-gathered-in-Done-clause-does
follow-returns-in_ok-gathered-in-Done-clause-does g t c =
    let n = g.N.Network in
    follows_rest n.scene n.most n.names n.journal c.args.net.now c.args.from c.args.owner c.args.message.now
    c.args.reply c.gather.new.net c.in-Done.answer c.in_ok-rest-in-Done.rest c.in_ok-references-in-Done.references
    c.in_ok-gathered-in-Done.gathered c.finished.result c.in-Done.is
    (λ e. omega (arith, c.len.ensures, c.if-len-eq0.false, e)) c.in_ok-references-in-Done.ensures.view
    c.in_ok-rest-in-Done.ensures.view c.finished.ensures c.in_ok-gathered-in-Done.ensures.does

pub update-returns-in-Refused-clause-does : goal.update-returns-in-Refused-clause-does
update-returns-in-Refused-clause-does g t c =
    let n = g.N.Network in
    update_refused n.scene n.most n.names n.journal c.args.net.now c.args.me c.args.message.now c.in_ok-error.field-0
    c.requires.due c.in_ok-error.ensures c.in-Refused.error c.in-Refused.is

pub update-returns-in_ok-commit-in-Passed-None-clause-does : goal.update-returns-in_ok-commit-in-Passed-None-clause-does
update-returns-in_ok-commit-in-Passed-None-clause-does g t c =
    let n = g.N.Network in
    alone_does n.scene n.most n.names n.journal c.args.net.now c.args.me c.args.message.now c.in_ok-error.field-0
    c.requires.due c.in_ok-error.ensures c.commit.new.self c.in-Passed-None.field-0 c.in-Passed-None.is
    c.in-Passed-None.field-0-is c.in_ok-commit-in-Passed-None.ensures.accepted

pub update-probe-requires : goal.update-probe-requires
update-probe-requires g t c κs within =
    let n = g.N.Network in
    let agents = probed_named n.scene n.most n.names n.journal c.args.net.now c.args.me c.args.message.now
    c.in_ok-error.field-0 c.requires.due c.in_ok-error.ensures c.in-Passed-Some.field-0 c.in-Passed-Some.reference
    c.in-Passed-Some.is c.in-Passed-Some.field-0-is (g.met.N.Network.knows c.args.net.now) c.requires.there in
    let passable = due_passable (n.scene c.args.net.now) (n.names c.args.net.now) c.args.me c.args.message.now
    (n.journal c.args.net.now) c.requires.due in
    let bounded = probed_bounded n.scene n.most n.names n.journal c.args.net.now c.args.me c.args.message.now
    c.in_ok-error.field-0 c.requires.due c.in_ok-error.ensures c.in-Passed-Some.field-0 c.in-Passed-Some.reference
    c.in-Passed-Some.is c.in-Passed-Some.field-0-is (g.met.N.Network.bounded c.args.net.now) c.requires.there
    c.requires.sent in
    (omega arith, (within, (c.requires.there, (c.requires.due.of_user, (agents, (c.requires.sent, (passable, bounded)))))))

pub update-returns-then-len-gt0-clause-does : goal.update-returns-then-len-gt0-clause-does
update-returns-then-len-gt0-clause-does g t c =
    let n = g.N.Network in
    IfOk-weaker c.unavailable_of.result _ _ (λ y f. probed_missed n.scene n.most n.names n.journal c.args.net.now
    c.args.me c.args.message.now c.in_ok-error.field-0 c.requires.due c.in_ok-error.ensures c.in-Passed-Some.field-0
    c.in-Passed-Some.reference c.in-Passed-Some.is c.in-Passed-Some.field-0-is c.probe.new.net
    c.in_ok-error-in-Passed-Some.field-0 c.in_ok-error-in-Passed-Some.ensures.does c.in-Through.noted
    c.in-Through.is y (λ e. omega (arith, c.len.ensures, c.if-len-gt0.true, e)) f) c.unavailable_of.ensures

pub update-commit-requires-in-Through-clause-ready : goal.update-commit-requires-in-Through-clause-ready
update-commit-requires-in-Through-clause-ready g t c =
    let n = g.N.Network in
    probed_ready n.scene n.most n.names n.journal c.args.net.now c.args.me c.args.message.now c.in_ok-error.field-0
    c.requires.due c.in_ok-error.ensures c.in-Passed-Some.field-0 c.in-Passed-Some.reference c.in-Passed-Some.is
    c.in-Passed-Some.field-0-is c.probe.new.net c.in_ok-error-in-Passed-Some.field-0
    c.in_ok-error-in-Passed-Some.ensures.does c.in-Through.noted c.in-Through.is
    c.in_ok-error-in-Passed-Some.ensures.stays

pub update-returns-in_ok-commit-in-Through-clause-does : goal.update-returns-in_ok-commit-in-Through-clause-does
update-returns-in_ok-commit-in-Through-clause-does g t c =
    let n = g.N.Network in
    probed_does n.scene n.most n.names n.journal c.args.net.now c.args.me c.args.message.now c.in_ok-error.field-0
    c.requires.due c.in_ok-error.ensures c.in-Passed-Some.field-0 c.in-Passed-Some.reference c.in-Passed-Some.is
    c.in-Passed-Some.field-0-is c.probe.new.net c.in_ok-error-in-Passed-Some.field-0
    c.in_ok-error-in-Passed-Some.ensures.does c.in-Through.noted c.in-Through.is c.commit-in-Through.new.self
    (omega (arith, c.len.ensures, c.if-len-gt0.false)) c.in_ok-commit-in-Through.ensures.accepted
