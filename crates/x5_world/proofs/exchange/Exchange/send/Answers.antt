-- What was pushed is the next line of the journal.
use Rattle.std.proofs.Common.{◌≡◌, ◌+◌, ◌<◌, ◌≤◌, is_ok, length, refl, sym, ap, subst, ◌∙◌, arith}
use Rattle.x5_ops.specs.JournalViews.{fate_view}
use Rattle.x5_ops.specs.ReferenceViews.{chained_view}
use Rattle.x5_model_run.specs.Network as fates
use Rattle.x5_model_limits.specs.Messages.{BoundedMessage}
use Rattle.x5_serve.specs.Networks.{IsCarriedBy}
use Rattle.x5_serve.specs.Sendable.{IsTaken}
use Rattle.x5_serve.specs.declared.network.Carried.{Carried}
use Rattle.x5_world.specs.State.{Net}
use Rattle.x5_world.specs.Sent.{journal_of, scene_of}
use Rattle.x5_world.specs.declared.journal.Sent.{Sent}
use Rattle.x5_world.proofs.Carrying.{arrives_so, read_as_sent, sent_within, short_trace}
use Rattle.x5_world.proofs.Sending.{is_carried, counts, pushed}
use Rattle.x5_world.proofs.exchange.Exchange.send.Goals as goal

pub invariant_of-self-2 : goal.invariant_of-self-2
invariant_of-self-2 g c =
    let n : Net = g.B.Begun.net in
    let within : length c.args.self.now.lines.items < c.args.self.now.most =
    (omega (arith, c.len.ensures, c.if-len-self.false)) in
    let short : length c.args.message.now.trace ≤ 4294967295 = short_trace n.names c.args.message.now c.requires.sent in
    let sent : Sent =
    record {
      number = c.sent.result + c.len-2.result + 1;
      from = c.args.from;
      to = c.args.to;
      message = c.in_ok-copy.field-0;
      fate = c.fate-fate.result;
    } in
    record {
      under_way = pushed n c.args.self.now.world c.args.self.now.first
          (chained_view n.names c.args.self.now.message.now) c.args.self.now.most
          c.args.self.now.lines.items c.push.new.self.items c.args.self.now.accepted.items sent (is_ok c.push.result)
          c.args.self.now.under_way within
          (counts n.names sent c.args.message.now c.requires.from c.requires.to (c.in_ok-copy.ensures n.names) short)
          (subst BoundedMessage (sym (c.in_ok-copy.ensures n.names)) c.requires.sent.bounded)
          c.push.ensures.items;
    }

pub returns-clause-carried : goal.returns-clause-carried
returns-clause-carried g c =
    let n : Net = g.B.Begun.net in
    let within : length c.args.self.now.lines.items < c.args.self.now.most =
    (omega (arith, c.len.ensures, c.if-len-self.false)) in
    let rest = c.args.self.now.under_way.changed.rest in
    let number : c.sent.result + c.len-2.result + 1 ≡ n.sent + length c.args.self.now.lines.items + 1 =
    (let so_far = ap (λ (x : Net). x.sent) rest in omega (arith, c.sent.ensures, c.len-2.ensures, so_far)) in
    let links : c.args.self.now.world.network ≡ n.network = ap (λ (x : Net). x.network) rest in
    subst (λ (x : Carried). IsCarriedBy (scene_of n c.args.self.now.first (chained_view n.names c.args.self.now.message.now))
    c.args.self.now.most n.names (journal_of n.names c.args.self.now.lines.items c.args.self.now.accepted.items)
    (journal_of n.names c.push.new.self.items c.args.self.now.accepted.items) c.args.from
    c.args.to (chained_view n.names c.args.message.now) x) (sym c.arrival.ensures)
    (is_carried n c.args.self.now.first (chained_view n.names c.args.self.now.message.now) c.args.self.now.most
    c.args.self.now.lines.items c.push.new.self.items c.args.self.now.accepted.items _ c.args.from c.args.to
    c.args.message.now c.in_ok-received.field-0 within c.in_ok-push.ensures.items number refl refl
    (c.in_ok-copy.ensures n.names) (c.in_ok-received.ensures.seen n.names)
    (c.fate-fate.ensures
    ∙ (λ i. fates.fate_of (links i) (number i) c.args.from c.args.to)))

pub received-requires : goal.received-requires
received-requires g c = let n : Net = g.B.Begun.net in sent_within n.names c.args.message.now c.requires.sent

pub returns-clause-taken : goal.returns-clause-taken
returns-clause-taken g c =
    let n : Net = g.B.Begun.net in
    subst (λ (x : Carried). IsTaken n.names x) (sym c.arrival.ensures)
    (arrives_so n.names (fate_view c.fate-fate.result) c.in_ok-received.field-0
    (read_as_sent n.names c.args.message.now c.in_ok-received.field-0 c.requires.sent c.in_ok-received.ensures.told))
