-- What agents find, need and reply is within the limits of messages, by the laws of the definitions; and what is passed on
-- may be sent as its message might be.
use Rattle.std.proofs.Common.{◌≡◌, ℕ, ◌<◌, ◌==◌, nat_lt, Bool, true, false, List, [], ◌∷◌, ◌++◌, length, map, refl, sym, ap, subst, ◌∙◌, Some, if◌then◌else◌}
use Rattle.std.specs.List.{list_all}
use Rattle.std.specs.Cmp.Lexicographic.{bytes_decides}
use Rattle.x5_model.specs.Words.{has, distinct, same_octets}
use Rattle.x5_model.specs.Members.{here}
use Rattle.x5_model.specs.References as model
use Rattle.x5_model.specs.Answers as answers
use Rattle.x5_model.proofs.Decide.{less_decides}
use Rattle.x5_model.proofs.Lists.{both_true, and_true, of_any, of_all}
use Rattle.x5_model_tree.specs.Described.{is_agent_name}
use Rattle.x5_model_run.specs.Journal.{Journal, operation_of, item_of, same_item}
use Rattle.x5_model_run.specs.Needs.{due_probes}
use Rattle.x5_model_run.specs.Chain.{Scene}
use Rattle.x5_model_serve.specs.Committed.{committed}
use Rattle.x5_model_serve.specs.Finding as finding
use Rattle.x5_model_serve.specs.Answering.{to_follow}
use Rattle.x5_model_serve.specs.Serving.{Hand, hand, carried_for, Serves, Does, found_at, holds_now, parts_refs}
use Rattle.x5_model_fitting.specs.Names.{Each}
use Rattle.x5_model_known.proofs.Replying.{served_name_agents}
use Rattle.x5_model_limits.specs.Holding.{BoundedHoldings}
use Rattle.x5_model_limits.specs.Messages.{BoundedReference, BoundedMessage, BoundedReply}
use Rattle.x5_model_limits.specs.Doing.{BoundedFound}
use Rattle.x5_model_limits.proofs.Carrying.{carried_bounded}
use Rattle.x5_model_limits.proofs.Finding.{finds_bounded}
use Rattle.x5_model_limits.proofs.Needing.{rest_bounded, probes_bounded}
use Rattle.x5_model_limits.proofs.Committing.{committed_bounded}
use Rattle.x5_model_limits.proofs.Answering.{answers_are_bounded}
use Rattle.x5_model_limits.proofs.Doing.{does_bounded}
use Rattle.x5_ops.specs.ReferenceViews.{chained_view, reference_view, item_view}
use Rattle.x5_ops.specs.AnswerViews.{answer_view, reply_view}
use Rattle.x5_ops.specs.RequestViews.{body_view}
use Rattle.x5_ops.specs.declared.references.TraceItem.{TraceItem}
use Rattle.x5_ops.specs.declared.references.Chained.{Chained}
use Rattle.x5_ops.specs.declared.references.Reference.{Reference}
use Rattle.x5_ops.specs.declared.answers.Answer.{Answer}
use Rattle.x5_ops.specs.declared.answers.Reply.{Reply}
use Rattle.x5_trace.specs.Items.{same_named, IsNamed}
use Rattle.x5_trace.proofs.Items.{any_has, distinct_push, repeats_placed}
use Rattle.x5_serve.specs.Sendable.{replies_to, MayBeSent, MayBeReplied, MayBePassedOn, KeepsLimits}
use Rattle.x5_serve.proofs.Operations.{served_answers}

-- ---- what an agent of the network finds and needs

module _ (n : ℕ) (s : Scene) (i : Journal) (limits : KeepsLimits n s i) where
  held_bounded : (j : Journal) (k : Hand) → nat_lt k.receiver n ≡ true → BoundedHoldings (holds_now s j k)
  held_bounded j k t = by (has ◌==◌ j.accepted k.receiver)
    where
      by : (b : Bool) → BoundedHoldings (if b then committed s.message.request (s.holdings k.receiver)
          else s.holdings k.receiver)
      by true =
          committed_bounded s.message.request (s.holdings k.receiver) limits.request (limits.holds k.receiver t)
      by false = limits.holds k.receiver t

  module _ (j : Journal) (k : Hand) (there : k.receiver < n) (bounded : BoundedMessage k.message) where
    is_there : nat_lt k.receiver n ≡ true
    is_there = (less_decides k.receiver n).1 there

    pub onward_bounded : (r : model.Reference) → found_at s j k ≡ finding.Onward r → BoundedReference r
    onward_bounded r e =
        subst (λ (f : finding.Found). BoundedFound f) e
        (finds_bounded (holds_now s j k) k.message (held_bounded j k is_there) bounded)

    pub parts_bounded : (rs : List model.Reference) → parts_refs s j k ≡ rs → Each BoundedReference rs
    parts_bounded rs e =
        subst (λ (xs : List model.Reference). Each BoundedReference xs) e
        (rest_bounded (holds_now s j k) k.message (held_bounded j k is_there) bounded)

    pub probe_bounded : (r : model.Reference) → due_probes (holds_now s j k) k.message ≡ r ∷ [] → BoundedReference r
    probe_bounded r e =
        subst (λ (xs : List model.Reference). Each BoundedReference xs) e
        (probes_bounded (holds_now s j k) k.message (held_bounded j k is_there) bounded) r here

  -- ---- and replies
  served_bounded : (most : ℕ) (k : Hand) (y : answers.Reply) (l : Journal) → nat_lt k.receiver n ≡ true
      → BoundedMessage k.message → Does s most (Serves k y) i l → BoundedReply y
  served_bounded most k y l t bounded d =
      (does_bounded n s most (Serves k y) i l limits.names limits.holds limits.request d
      (record { receiver = t; message = bounded }) limits.journal).0.reply

pub may_be_replied : (names : List (List ℕ)) (s : Scene) (most : ℕ) (i j : Journal) (me : ℕ) (m : Chained) (y : Reply)
    (operation : ℕ) → KeepsLimits (length names) s i → me < length names → MayBeSent names m
    → operation ≡ operation_of (body_view m.request.body)
    → Does s most (Serves (hand me (chained_view names m)) (reply_view names y)) i j
    → MayBeReplied names operation y
may_be_replied names s most i j me m y operation limits there sent same d =
    let t : nat_lt me (length names) ≡ true = (less_decides me (length names)).1 there in
    record {
      bounded = served_bounded (length names) s i limits most (hand me (chained_view names m)) (reply_view names y) j t
          sent.bounded d;
      agents = served_name_agents (length names) s most (hand me (chained_view names m)) (reply_view names y) i j
          limits.names limits.whose t d;
      answers = subst (λ (o : ℕ). replies_to o (reply_view names y) ≡ true) (sym same)
          (served_answers s most (hand me (chained_view names m)) (reply_view names y) i j d);
    }

-- ---- what a reply leaves

pub left_bounded : (names : List (List ℕ)) (a : Answer) (rs : List model.Reference)
    → rs ≡ to_follow (answer_view names a) → BoundedReply (answers.Answered (answer_view names a))
    → Each BoundedReference rs
left_bounded names a rs e bounded =
    subst (λ (xs : List model.Reference). Each BoundedReference xs) (sym e)
    (answers_are_bounded.follow (answer_view names a) bounded)

-- ---- what is passed on

-- the agents of the network are named as agents may be
plainly_named : (names : List (List ℕ)) (name : List ℕ) → list_all is_agent_name names ≡ true → IsNamed names name
    → is_agent_name name ≡ true
plainly_named names name plain named =
    let w = of_any (λ n. same_octets n name) names named in
    subst (λ (x : List ℕ). is_agent_name x ≡ true) ((bytes_decides w.0 name).0 w.2)
    (of_all is_agent_name w.0 names plain w.1)

all_push : {A : Type 0} (test : A → Bool) (xs : List A) (x : A) → list_all test xs ≡ true → test x ≡ true
    → list_all test (xs ++ x ∷ []) ≡ true
all_push test [] x e f = and_true (test x) true f refl
all_push test (y ∷ ys) x e f =
    let b = both_true (test y) (list_all test ys) e in
    and_true (test y) (list_all test (ys ++ x ∷ [])) b.0 (all_push test ys x b.1 f)

pub sent_on : (names : List (List ℕ)) (owner : ℕ) (m : Chained) (r : Reference) (onward : Chained) (item : TraceItem)
    → MayBeSent names m → MayBePassedOn (hand owner (chained_view names m)) → BoundedReference (reference_view names r)
    → list_all is_agent_name names ≡ true → onward.trace ≡ m.trace ++ item ∷ []
    → item_view names item ≡ item_of owner (chained_view names m) → IsNamed names item.agent
    → chained_view names onward ≡ carried_for (Some 0) (hand owner (chained_view names m)) (reference_view names r)
    → MayBeSent names onward
sent_on names owner m r onward item sent passable bounded plain more own named carried =
    let fresh : has same_named m.trace item ≡ false =
    sym (any_has same_named m.trace item) ∙ repeats_placed names m.trace item named
    ∙ ap (has same_item (map (item_view names) m.trace)) own ∙ passable.unlooped in
    record {
      bounded = subst BoundedMessage (sym carried)
          (carried_bounded (Some 0) (hand owner (chained_view names m)) (reference_view names r) sent.bounded bounded
          passable.short);
      apart = ap (distinct same_named) more ∙ distinct_push m.trace item fresh sent.apart;
      plain = ap (list_all (λ (x : TraceItem). is_agent_name x.agent)) more
          ∙ all_push (λ (x : TraceItem). is_agent_name x.agent) m.trace item sent.plain
          (plainly_named names item.agent plain named);
    }
