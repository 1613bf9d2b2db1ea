-- Each reply at once is one of the relation's arrivals, by the tests that were passed before it; with none the message
-- is
-- looked at.
use Rattle.std.proofs.Common.{rules, ◌≡◌, None, sym, ap, subst, ◌∙◌, arith}
use Rattle.std.specs.Option.{option_map}
use Rattle.x5_model_serve.specs.Serving.{hand, Serves, Does, is_long, done_before, refused, unfit}
use Rattle.x5_ops.specs.AnswerViews.{error_view}
use Rattle.x5_ops.specs.ReferenceViews.{chained_view, item_view}
use Rattle.x5_serve.proofs.Arriving.{looped_is, loops_with, too_long, not_long}
use Rattle.x5_serve.proofs.arrival.early.Goals as goal

pub returns-then-repeats : goal.returns-then-repeats
returns-then-repeats g c =
    let nm = c.names.ensures in
    let own = rw nm at c.in_ok-item.ensures.item in
    let at = rw nm at (c.repeats.ensures.placed c.names.result.now c.in_ok-item.ensures.named) in
    loops_with (hand c.args.me (chained_view (g.N.Network.names c.args.net.now) c.args.message.now))
    (g.N.Network.journal c.args.net.now) (item_view (g.N.Network.names c.args.net.now) c.in_ok-item.item)
    (looped_is (g.N.Network.names c.args.net.now) c.args.me c.args.message.now c.in_ok-item.item c.repeats.result own at
    ∙ c.if-repeats.true) own

pub returns-then-len-ge-MOST_ITEMS : goal.returns-then-len-ge-MOST_ITEMS
returns-then-len-ge-MOST_ITEMS g c =
    let nm = c.names.ensures in
    let own = rw nm at c.in_ok-item.ensures.item in
    let at = rw nm at (c.repeats.ensures.placed c.names.result.now c.in_ok-item.ensures.named) in
    subst (λ y. Does (g.N.Network.scene c.args.net.now) (g.N.Network.most c.args.net.now)
    (Serves (hand c.args.me (chained_view (g.N.Network.names c.args.net.now) c.args.message.now)) y)
    (g.N.Network.journal c.args.net.now) (g.N.Network.journal c.args.net.now))
    (sym (c.limit_exceeded.ensures (g.N.Network.names c.args.net.now)))
    (is_long (looped_is (g.N.Network.names c.args.net.now) c.args.me c.args.message.now c.in_ok-item.item
    c.repeats.result own at ∙ c.if-repeats.false) (too_long (g.N.Network.names c.args.net.now) c.args.me
    c.args.message.now (omega arith)))

pub returns-then-is_done : goal.returns-then-is_done
returns-then-is_done g c =
    let nm = c.names.ensures in
    let own = rw nm at c.in_ok-item.ensures.item in
    let at = rw nm at (c.repeats.ensures.placed c.names.result.now c.in_ok-item.ensures.named) in
    done_before (looped_is (g.N.Network.names c.args.net.now) c.args.me c.args.message.now c.in_ok-item.item
    c.repeats.result own at ∙ c.if-repeats.false) (not_long (g.N.Network.names c.args.net.now) c.args.me
    c.args.message.now (omega arith)) (sym c.is_done.ensures ∙ c.if-is_done.true)

pub returns-in-Some : goal.returns-in-Some
returns-in-Some g c =
    let nm = c.names.ensures in
    let own = rw nm at c.in_ok-item.ensures.item in
    let at = rw nm at (c.repeats.ensures.placed c.names.result.now c.in_ok-item.ensures.named) in
    refused (error_view (g.N.Network.names c.args.net.now) c.in-Some.fault)
    (looped_is (g.N.Network.names c.args.net.now) c.args.me c.args.message.now c.in_ok-item.item c.repeats.result
    own at ∙ c.if-repeats.false) (not_long (g.N.Network.names c.args.net.now) c.args.me c.args.message.now
    (omega arith)) (sym c.is_done.ensures ∙ c.if-is_done.false)
    (sym (c.in_ok-fault.ensures (g.N.Network.names c.args.net.now)) ∙ ap
    (option_map (error_view (g.N.Network.names c.args.net.now))) c.in-Some.is)

pub returns-then-not-branch : goal.returns-then-not-branch
returns-then-not-branch g c =
    let nm = c.names.ensures in
    let own = rw nm at c.in_ok-item.ensures.item in
    let at = rw nm at (c.repeats.ensures.placed c.names.result.now c.in_ok-item.ensures.named) in
    let none : c.in_ok-fault.field-0 ≡ None = search rules in
    let told = rw c.names-then-not-branch.ensures at c.in_ok-unfit.ensures in
    subst (λ y. Does (g.N.Network.scene c.args.net.now) (g.N.Network.most c.args.net.now)
    (Serves (hand c.args.me (chained_view (g.N.Network.names c.args.net.now) c.args.message.now)) y)
    (g.N.Network.journal c.args.net.now) (g.N.Network.journal c.args.net.now))
    (sym told)
    (unfit (looped_is (g.N.Network.names c.args.net.now) c.args.me c.args.message.now c.in_ok-item.item c.repeats.result
    own at ∙ c.if-repeats.false) (not_long (g.N.Network.names c.args.net.now) c.args.me c.args.message.now
    (omega arith)) (sym c.is_done.ensures ∙ c.if-is_done.false)
    (sym (c.in_ok-fault.ensures (g.N.Network.names c.args.net.now)) ∙ ap
    (option_map (error_view (g.N.Network.names c.args.net.now))) none)
    (sym (c.in_ok-fits.ensures (g.N.Network.names c.args.net.now)) ∙ c.if-not-branch.true))

pub returns : goal.returns
returns g c =
    let nm = c.names.ensures in
    let own = rw nm at c.in_ok-item.ensures.item in
    let at = rw nm at (c.repeats.ensures.placed c.names.result.now c.in_ok-item.ensures.named) in
    let none : c.in_ok-fault.field-0 ≡ None = search rules in
    record {
      unlooped = looped_is (g.N.Network.names c.args.net.now) c.args.me c.args.message.now c.in_ok-item.item
          c.repeats.result own at ∙ c.if-repeats.false;
      short = not_long (g.N.Network.names c.args.net.now) c.args.me c.args.message.now (omega arith);
      fresh = sym c.is_done.ensures ∙ c.if-is_done.false;
      unrefused = sym (c.in_ok-fault.ensures (g.N.Network.names c.args.net.now)) ∙ ap
          (option_map (error_view (g.N.Network.names c.args.net.now))) none;
      fit = sym (c.in_ok-fits.ensures (g.N.Network.names c.args.net.now)) ∙ c.if-not-branch.false;
    }
