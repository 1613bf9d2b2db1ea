-- By one induction over all that is done: what is told is what the agent found, answered or heard, and each message
-- that is sent is carried by a reference of its own or of a reply that it follows.
use Rattle.std.proofs.Common.{◌≡◌, ℕ, ◌-◌, ◌==◌, nat_lt, Bool, true, false, not, inl, inr, List, [], ◌∷◌, ◌++◌, refl, sym, subst, ◌∙◌, arith, Option, Some, None, Err, if◌then◌else◌}
use Rattle.std.specs.List.{list_all, filter}
use Rattle.x5_model.specs.Words.{has}
use Rattle.x5_model.specs.Members.{here}
use Rattle.x5_model.specs.References.{Progress, Start, Next, Done, Reference}
use Rattle.x5_model.specs.Answers.{Answer, DirError, ServiceProblem, Reply, Answered, Failed}
use Rattle.x5_model.specs.Problems.{loop_detected}
use Rattle.x5_model.proofs.Lists.{in_first, in_left, in_right, of_filter, of_all, all_in}
use Rattle.x5_model_tree.specs.Ask.{unexplored_of}
use Rattle.x5_model_run.specs.Holdings.{ground_at}
use Rattle.x5_model_run.specs.Journal.{Line, Journal, is_wide, item_of}
use Rattle.x5_model_run.specs.Needs.{due_probes}
use Rattle.x5_model_run.specs.Chain.{Scene}
use Rattle.x5_model_theory.proofs.Tests.{false_true}
use Rattle.x5_model_serve.specs.Committed.{committed}
use Rattle.x5_model_serve.specs.Finding as finding
use Rattle.x5_model_serve.specs.Answering.{local_part, with_unexplored, passed_by, in_vain, is_unavailable, above_next}
use Rattle.x5_model_serve.specs.Serving.{Hand, hand, hand_of, is_looped, held_back, Heard, Unheard, Hears, Gathered, Whole, Broken, Act, Does, asked_by, holds_now, found_at, gathered_reply, heard_or, is_final, is_too_long, judged, limit_reply, parts_refs, stuck_problem, carried_for, next_line, with_line, user_line, user_in_vain, nothing_yet, IsRequest, not_heard, not_told, answers, loops, is_long, done_before, refused, unfit, stuck, nowhere, refers, goes, casts, reads, reads_copy, gives_parts, asks_parts, updates, not_done, does, probes_all, misses, taken, breaks, no_probe, clear, unsure, silent, holds_back, spent, lost, dropped, sends, final, referral, wide_referral, unexplored, none_yet, in_vain_too, heard, unheard, none_asked, unable_too, silent_too, answered, nobody_has, some_silent, no_part, part_unheard, part_unavailable, part_answered, part_breaks}
use Rattle.x5_model_heard.specs.Told.{are_agents, name_agents, KnowsAgents, IsTold}
use Rattle.x5_model_heard.proofs.Told.{replies_are_told}
use Rattle.x5_model_known.proofs.Finding.{knowledge_names_agents}
use Rattle.x5_model_fitting.specs.Names.{Each, NameWithin}
use Rattle.x5_model_fitting.specs.Requests.{RequestWithin}
use Rattle.x5_model_fitting.specs.Replies.{ProblemWithin}
use Rattle.x5_model_fitting.proofs.Kept.{beginning_within}
use Rattle.x5_model_limits.specs.Holding.{BoundedHoldings, HoldBounded}
use Rattle.x5_model_limits.specs.Messages.{BoundedReference, BoundedMessage, BoundedAnswer, BoundedReply}
use Rattle.x5_model_limits.specs.Doing.{BoundedFound, BoundedHand, BoundedJournal, BoundedOpener, BoundedAsking, BoundedTelling, GivenBounded, BoundedHeard, BoundedWhole, ToldBounded}
use Rattle.x5_model_limits.specs.Laws.{DoesBounded, RequestsBounded}
use Rattle.x5_model_limits.proofs.Lists.{each_one}
use Rattle.x5_model_limits.proofs.Spelling.{root_within}
use Rattle.x5_model_limits.proofs.Carrying.{item_within, carried_bounded}
use Rattle.x5_model_limits.proofs.Finding.{finds_bounded}
use Rattle.x5_model_limits.proofs.Needing.{rest_bounded, probes_bounded}
use Rattle.x5_model_limits.proofs.Answering.{answers_are_bounded}
use Rattle.x5_model_limits.proofs.Refusing.{refusals_are_bounded, judged_is_bounded, ground_is_bounded}
use Rattle.x5_model_limits.proofs.Parting.{own_part_is_bounded, copy_part_is_bounded, local_part_is_bounded}
use Rattle.x5_model_limits.proofs.Committing.{committed_bounded}

-- ---- lists

all_left : {A : Type 0} (test : A → Bool) (xs ys : List A) → list_all test (xs ++ ys) ≡ true → list_all test xs ≡ true
all_left test xs ys e = all_in test xs (λ x i. of_all test x (xs ++ ys) e (in_left x xs ys i))

middle : {A : Type 0} (test : A → Bool) (x : A) (before after : List A) → list_all test (before ++ x ∷ after) ≡ true
    → test x ≡ true
middle test x before after e = of_all test x (before ++ x ∷ after) e (in_right x before (x ∷ after) here)

all_kept : {A : Type 0} (test keep : A → Bool) (xs : List A) → list_all test xs ≡ true
    → list_all test (filter keep xs) ≡ true
all_kept test keep xs e = all_in test (filter keep xs) (λ x i. of_all test x xs e (of_filter keep x xs i).0)

each_left : {A : Type 0} (P : A → Type 0) (xs ys : List A) → Each P (xs ++ ys) → Each P xs
each_left P xs ys f x i = f x (in_left x xs ys i)

each_middle : {A : Type 0} (P : A → Type 0) (x : A) (before after : List A) → Each P (before ++ x ∷ after) → P x
each_middle P x before after f = f x (in_right x before (x ∷ after) here)

-- ---- errors that name no agent's error

stuck_within : (k : Hand) → ProblemWithin 12 (stuck_problem k)
stuck_within k = by (is_wide k.message.kind) refl
  where
    by : (b : Bool) → is_wide k.message.kind ≡ b → ProblemWithin 12 (stuck_problem k)
    by true e = rw e (omega arith, omega arith)
    by false e = rw e (omega arith, omega arith)

asked_bounded : (k : Hand) → BoundedMessage k.message → BoundedReference (asked_by k)
asked_bounded k w = record { target = w.target; progress = w.progress; exclusions = w.exclusions }

limit_bounded : BoundedReply limit_reply
limit_bounded = ((omega arith, omega arith), tt, tt)

unavailable_bounded : (r : Reference) → BoundedReference r → BoundedReply (is_unavailable r)
unavailable_bounded r w = ((omega arith, omega arith), w, tt)

above_within : (r : Reference) → BoundedReference r → NameWithin (above_next r)
above_within r w = by r.progress refl
  where
    by : (p : Progress) → r.progress ≡ p → NameWithin (above_next r)
    by Start e = rw e root_within
    by (Next k) e = rw e (beginning_within (k - 1) r.target w.target)
    by Done e = rw e w.target

-- ---- replies to a message

final_telling : (k : Hand) (y : Reply) → is_final y ≡ true → BoundedReply y → BoundedTelling k y
final_telling k y e w = record { reply = w; short = λ f. absurd (false_true (sym f ∙ e)) }

short_telling : (k : Hand) (y : Reply) → is_too_long k ≡ false → BoundedReply y → BoundedTelling k y
short_telling k y e w = record { reply = w; short = λ f. e }

-- the agents of a world that has so many
module _ (n : ℕ) where
  abbrev is_there : ℕ → Bool
  is_there a = nat_lt a n

  abbrev is_named : Reference → Bool
  is_named r = are_agents n r.agents

  abbrev Comes : Act → Journal → Journal → Type 0
  Comes x i j = GivenBounded n x → BoundedJournal n i → ToldBounded x × BoundedJournal n j

  one_line : (l : Line) (j : Journal) → BoundedHand n (hand_of l) → BoundedJournal n j
      → BoundedJournal n (with_line l j)
  one_line l j w f x i = elim (in_first x l j.lines i) [
    | inl e ↦ subst (λ (y : Line). BoundedHand n (hand_of y)) (sym e) w
    | inr k ↦ f x k
  ]

  opener : (k : Hand) → BoundedHand n k → is_too_long k ≡ false → BoundedOpener n k
  opener k g e = record { hand = g; short = e }

  asking : (o : Hand) (r : Reference) → BoundedOpener n o → BoundedReference r → BoundedAsking n o r
  asking o r g w = record { opener = g; reference = w }

  -- the message that is sent by a reference
  sent : (from : Option ℕ) (o : Hand) (r : Reference) (a : ℕ) → BoundedAsking n o r → is_there a ≡ true
      → BoundedHand n (hand a (carried_for from o r))
  sent from o r a g t = record {
    receiver = t;
    message = carried_bounded from o r g.opener.hand.message g.reference g.opener.short;
  }

  -- what a user tells himself
  held_bounded : (k : Hand) → BoundedHand n k → BoundedReply (held_back k)
  held_bounded k g = by (is_looped k)
    where
      by : (b : Bool) → BoundedReply (if b then Failed (ServiceProblem loop_detected None (Some (item_of k.receiver k.message))) else limit_reply)
      by true = ((omega arith, omega arith), tt, item_within k.receiver k.message g.message)
      by false = limit_bounded

  whole_bounded : (k : Hand) (w : Gathered) → BoundedWhole w → BoundedReply (gathered_reply k w)
  whole_bounded k (Whole a) t = answers_are_bounded.limited k.message.request.controls.size a t
  whole_bounded k (Broken y) t = t

  vain_bounded : (r : Reference) → BoundedReference r → BoundedReply (is_unavailable (in_vain r))
  vain_bounded r w = unavailable_bounded (in_vain r) (answers_are_bounded.vain r w)

  heard_bounded : (r : Reference) (h : Heard) → BoundedReference r → BoundedHeard h
      → BoundedReply (heard_or (is_unavailable (in_vain r)) h)
  heard_bounded r Unheard w t = vain_bounded r w
  heard_bounded r (Hears y) w t = t

  module _ (s : Scene) (most : ℕ) (knows : KnowsAgents n s) (bounded : HoldBounded n s)
      (asks : RequestWithin s.message.request) where
    now_bounded : (j : Journal) (k : Hand) → is_there k.receiver ≡ true → BoundedHoldings (holds_now s j k)
    now_bounded j k e = by (has ◌==◌ j.accepted k.receiver)
      where
        by : (b : Bool) → BoundedHoldings
            (if b then committed s.message.request (s.holdings k.receiver) else s.holdings k.receiver)
        by true = committed_bounded s.message.request (s.holdings k.receiver) asks (bounded k.receiver e)
        by false = bounded k.receiver e

    found : (j : Journal) (k : Hand) (x : finding.Found) → BoundedHand n k → found_at s j k ≡ x → BoundedFound x
    found j k x g e =
        subst BoundedFound e (finds_bounded (holds_now s j k) k.message (now_bounded j k g.receiver) g.message)

    local_bounded : (j : Journal) (k : Hand) (a : Answer) → BoundedHand n k
        → local_part (holds_now s j k) k.message ≡ Answered a → BoundedAnswer a
    local_bounded j k a g e =
        subst BoundedReply e
        (local_part_is_bounded (holds_now s j k) k.message g.message.request (now_bounded j k g.receiver))

    parts_bounded : (j : Journal) (k : Hand) → BoundedHand n k → Each BoundedReference (parts_refs s j k)
    parts_bounded j k g = rest_bounded (holds_now s j k) k.message (now_bounded j k g.receiver) g.message

    -- the probe that is due
    probe : (j : Journal) (k : Hand) (r : Reference) → BoundedOpener n k
        → due_probes (holds_now s j k) k.message ≡ r ∷ [] → BoundedAsking n k r × (is_named r ≡ true)
    probe j k r g e = (
      asking k r g
          (subst (λ (rs : List Reference). Each BoundedReference rs) e
          (probes_bounded (holds_now s j k) k.message (now_bounded j k g.hand.receiver) g.hand.message) r here),
      of_all is_named r (r ∷ [])
          (subst (λ (rs : List Reference). name_agents n rs ≡ true) e (knows.probes j k g.hand.receiver)) here,
    )

    split : (r : Reference) (before after : List ℕ) (a : ℕ) → r.agents ≡ before ++ a ∷ after → is_named r ≡ true
        → are_agents n (before ++ a ∷ after) ≡ true
    split r before after a e t = subst (λ (xs : List ℕ). are_agents n xs ≡ true) e t

    -- a judgement that refuses
    refusal : (j : Journal) (k : Hand) (x : DirError) → BoundedHand n k → judged s j k ≡ Err x
        → BoundedReply (Failed x)
    refusal j k x g e =
        judged_is_bounded (ground_at k.message.request (holds_now s j k)) k.message.request x
        (ground_is_bounded k.message.request (holds_now s j k) (now_bounded j k g.receiver)) g.message.request e

    comes : (x : Act) (i j : Journal) → Does s most x i j → Comes x i j
    comes _ _ _ (loops {k} e) = λ g f. (
      final_telling k _ refl ((omega arith, omega arith), tt, item_within k.receiver k.message g.message),
      f,
    )
    comes _ _ _ (is_long {k} e t) = λ g f. (final_telling k _ refl limit_bounded, f)
    comes _ _ _ (done_before {k} e t u) = λ g f. (final_telling k _ refl tt, f)
    comes _ _ _ (refused {k} x e t u h) = λ g f.
        (final_telling k _ refl (refusals_are_bounded k.message.request x g.message.request h), f)
    comes _ _ _ (unfit {k} e t u h l) = λ g f.
        (final_telling k _ refl ((omega arith, omega arith), asked_bounded k g.message, tt), f)
    comes _ _ _ (stuck {k} a e) = λ g f.
        (final_telling k _ refl (stuck_within k, asked_bounded k g.message, tt), f)
    comes _ _ _ (nowhere {k} {j} m a e) = λ g f. (final_telling k _ refl (found j k (finding.Nowhere m) g e), f)
    comes _ _ _ (refers {k} {j} r a e t) = λ g f. (short_telling k _ a.short (found j k (finding.Onward r) g e), f)
    comes _ _ _ (goes {k} {i} r h a e t u d) =
        let next = comes _ _ _ d in
        λ g f.
        let w = found i k (finding.Onward r) g e in
        let x = next (asking k r (opener k g a.short) w, knows.onward i k r g.receiver e) f in
        (short_telling k _ a.short (heard_bounded r h w x.0), x.1)
    comes _ _ _ (casts {k} {i} r y a e t u d) =
        let next = comes _ _ _ d in
        λ g f.
        let w = found i k (finding.Onward r) g e in
        let x = next (asking k r (opener k g a.short) w, knows.onward i k r g.receiver e) f in
        (short_telling k _ a.short x.0, x.1)
    comes _ _ _ (reads {k} {j} c a e t u) = λ g f. (
      short_telling k _ a.short
          (own_part_is_bounded k.receiver k.message c g.message.request (found j k (finding.Here c) g e)),
      f,
    )
    comes _ _ _ (reads_copy {k} {j} c a e t) = λ g f. (
      short_telling k _ a.short
          (copy_part_is_bounded k.receiver k.message c g.message.request (found j k (finding.CopyHere c) g e)),
      f,
    )
    comes _ _ _ (gives_parts {k} {j} y a e t u) = λ g f. (
      short_telling k _ a.short
          (answers_are_bounded.limited k.message.request.controls.size (with_unexplored (parts_refs s j k) y)
          (answers_are_bounded.more (parts_refs s j k) y (parts_bounded j k g) (local_bounded j k y g u))),
      f,
    )
    comes _ _ _ (asks_parts {k} {i} y w a e t u d) =
        let next = comes _ _ _ d in
        λ g f.
        let x = next (
          opener k g a.short,
          parts_bounded i k g,
          knows.parts i k g.receiver,
          local_bounded i k y g u,
        ) f in
        (short_telling k _ a.short (whole_bounded k w x.0), x.1)
    comes _ _ _ (updates {k} c y a e t d) =
        let next = comes _ _ _ d in
        λ g f. (let x = next (opener k g a.short) f in (short_telling k _ a.short x.0, x.1))
    comes _ _ _ (not_done {k} {j} x e) = λ g f. (refusal j k x g.hand e, f)
    comes _ _ _ (does mine e t) = λ g f. (tt, f)
    comes _ _ _ (probes_all {k} {i} mine r e t d) =
        let next = comes _ _ _ d in
        λ g f. (tt, (next (probe i k r g t) f).1)
    comes _ _ _ (misses {k} {i} mine r a noted e t d) =
        let next = comes _ _ _ d in
        λ g f.
        let p = probe i k r g t in
        let x = next p f in
        (unavailable_bounded _ (answers_are_bounded.these (noted ++ a ∷ []) r p.0.reference), x.1)
    comes _ _ _ (taken {k} {i} mine r a b c m y e t u d v) =
        let first = comes _ _ _ d in
        let next = comes _ _ _ v in
        λ g f.
        let p = probe i k r g t in
        let all = split r b c a u p.1 in
        let x = first (p.0, all_left is_there b (a ∷ c) all) f in
        ((omega arith, omega arith), (next (p.0, middle is_there a b c all) x.1).1)
    comes _ _ _ (breaks {k} {i} mine r a b c m x e t u q z d v) =
        let first = comes _ _ _ d in
        let next = comes _ _ _ v in
        λ g f.
        let p = probe i k r g t in
        let all = split r b c a u p.1 in
        let l = first (p.0, all_left is_there b (a ∷ c) all) f in
        next (p.0, middle is_there a b c all) l.1
    comes _ _ _ no_probe = λ g f. (tt, f)
    comes _ _ _ (clear {before = b} a y e d u) =
        let first = comes _ _ _ d in
        let next = comes _ _ _ u in
        λ g f.
        let x = first (g.0, all_left is_there b (a ∷ []) g.1) f in
        (tt, (next (g.0, middle is_there a b [] g.1) x.1).1)
    comes _ _ _ (unsure {before = b} a y e d u) =
        let first = comes _ _ _ d in
        let next = comes _ _ _ u in
        λ g f.
        let x = first (g.0, all_left is_there b (a ∷ []) g.1) f in
        (tt, (next (g.0, middle is_there a b [] g.1) x.1).1)
    comes _ _ _ (silent {before = b} a d u) =
        let first = comes _ _ _ d in
        let next = comes _ _ _ u in
        λ g f.
        let x = first (g.0, all_left is_there b (a ∷ []) g.1) f in
        (tt, (next (g.0, middle is_there a b [] g.1) x.1).1)
    comes _ _ _ (holds_back {from} {o} {r} a e) = λ g f. (held_bounded (hand a (carried_for from o r)) (sent from o r a g.0 g.1), f)
    comes _ _ _ (spent a hb e) = λ g f. (limit_bounded, f)
    comes _ _ _ (lost {from} {o} {r} {j} a hb e t) = λ g f.
        (tt, one_line (next_line s j from o r a) j (sent from o r a g.0 g.1) f)
    comes _ _ _ (dropped {from} {o} {r} {i} a y hb e t d) =
        let next = comes _ _ _ d in
        λ g f.
        let k = sent from o r a g.0 g.1 in
        (tt, (next k (one_line (next_line s i from o r a) i k f)).1)
    comes _ _ _ (sends {from} {o} {r} {i} a y z hb e t d u) =
        let first = comes _ _ _ d in
        let next = comes _ _ _ u in
        λ g f.
        let k = sent from o r a g.0 g.1 in
        let x = first k (one_line (next_line s i from o r a) i k f) in
        let told : IsTold n y = replies_are_told n s most _ _ _ knows d g.1 in
        next (k, x.0, told.agents) x.1
    comes _ _ _ (final y e) = λ g f. (g.1.reply, f)
    comes _ _ _ (referral {k = k} r h e d) =
        let next = comes _ _ _ d in
        λ g f.
        let x = next (asking k r (opener k g.0 (g.1.short refl)) g.1.reply, g.2) f in
        (heard_bounded r h g.1.reply x.0, x.1)
    comes _ _ _ (wide_referral {k = k} r y e d) =
        let next = comes _ _ _ d in
        λ g f. next (asking k r (opener k g.0 (g.1.short refl)) g.1.reply, g.2) f
    comes _ _ _ (unexplored {k = k} a w e d) =
        let next = comes _ _ _ d in
        λ g f.
        let x = next (
          opener k g.0 (g.1.short e),
          answers_are_bounded.follow a g.1.reply,
          all_kept is_named (λ r. not r.tried) (unexplored_of a) g.2,
          answers_are_bounded.only (passed_by a) a (answers_are_bounded.pass a g.1.reply) g.1.reply,
        ) f in
        (whole_bounded k w x.0, x.1)
    comes _ _ _ none_yet = λ g f. (tt, f)
    comes _ _ _ (in_vain_too {before = b} a d u) =
        let first = comes _ _ _ d in
        let next = comes _ _ _ u in
        λ g f.
        let x = first (g.0, all_left is_there b (a ∷ []) g.1) f in
        (tt, (next (g.0, middle is_there a b [] g.1) x.1).1)
    comes _ _ _ (heard {r = r} b c a y e d u) =
        let first = comes _ _ _ d in
        let next = comes _ _ _ u in
        λ g f.
        let all = split r b c a e g.1 in
        let x = first (g.0, all_left is_there b (a ∷ c) all) f in
        next (g.0, middle is_there a b c all) x.1
    comes _ _ _ (unheard d) = (let next = comes _ _ _ d in λ g f. next g f)
    comes _ _ _ none_asked = λ g f. (tt, f)
    comes _ _ _ (unable_too {before = b} a y e d u) =
        let first = comes _ _ _ d in
        let next = comes _ _ _ u in
        λ g f.
        let x = first (g.0, all_left is_there b (a ∷ []) g.1) f in
        (tt, (next (g.0, middle is_there a b [] g.1) x.1).1)
    comes _ _ _ (silent_too {before = b} a d u) =
        let first = comes _ _ _ d in
        let next = comes _ _ _ u in
        λ g f.
        let x = first (g.0, all_left is_there b (a ∷ []) g.1) f in
        (tt, (next (g.0, middle is_there a b [] g.1) x.1).1)
    comes _ _ _ (answered {r = r} b c m a y e t d u) =
        let first = comes _ _ _ d in
        let next = comes _ _ _ u in
        λ g f.
        let all = split r b c a e g.1 in
        let x = first (g.0, all_left is_there b (a ∷ c) all) f in
        next (g.0, middle is_there a b c all) x.1
    comes _ _ _ (nobody_has {r = r} d) =
        let next = comes _ _ _ d in
        λ g f. (above_within r g.0.reference, (next g f).1)
    comes _ _ _ (some_silent {r = r} m e d) =
        let next = comes _ _ _ d in
        λ g f. (unavailable_bounded _ (answers_are_bounded.these m r g.0.reference), (next g f).1)
    comes _ _ _ no_part = λ g f. (g.3, f)
    comes _ _ _ (part_unheard {o = o} {rs = rs} {b = b} r d u) =
        let first = comes _ _ _ d in
        let next = comes _ _ _ u in
        λ g f.
        let w = each_middle BoundedReference r rs [] g.1 in
        let x = first (g.0, each_left BoundedReference rs (r ∷ []) g.1, all_left is_named rs (r ∷ []) g.2, g.3) f in
        let y = next (asking o r g.0 w, middle is_named r rs [] g.2) x.1 in (
          answers_are_bounded.more (in_vain r ∷ []) b
              (each_one BoundedReference (in_vain r) (answers_are_bounded.vain r w)) x.0,
          y.1,
        )
    comes _ _ _ (part_unavailable {o = o} {rs = rs} {b = b} r v d u) =
        let first = comes _ _ _ d in
        let next = comes _ _ _ u in
        λ g f.
        let w = each_middle BoundedReference r rs [] g.1 in
        let x = first (g.0, each_left BoundedReference rs (r ∷ []) g.1, all_left is_named rs (r ∷ []) g.2, g.3) f in
        let y = next (asking o r g.0 w, middle is_named r rs [] g.2) x.1 in (
          answers_are_bounded.more (in_vain v ∷ []) b
              (each_one BoundedReference (in_vain v) (answers_are_bounded.vain v y.0.1)) x.0,
          y.1,
        )
    comes _ _ _ (part_answered {o = o} {rs = rs} {b = b} r c d u) =
        let first = comes _ _ _ d in
        let next = comes _ _ _ u in
        λ g f.
        let w = each_middle BoundedReference r rs [] g.1 in
        let x = first (g.0, each_left BoundedReference rs (r ∷ []) g.1, all_left is_named rs (r ∷ []) g.2, g.3) f in
        let y = next (asking o r g.0 w, middle is_named r rs [] g.2) x.1 in
        (answers_are_bounded.merged b c x.0 y.0, y.1)
    comes _ _ _ (part_breaks {o = o} b c r x e d u) =
        let first = comes _ _ _ d in
        let next = comes _ _ _ u in
        λ g f.
        let w = each_middle BoundedReference r b c g.1 in
        let l = first (g.0, each_left BoundedReference b (r ∷ c) g.1, all_left is_named b (r ∷ c) g.2, g.3) f in
        next (asking o r g.0 w, middle is_named r b c g.2) l.1

    -- ---- the request of a user

    user_hand : is_there s.first ≡ true → BoundedMessage s.message → BoundedHand n (hand s.first s.message)
    user_hand t w = record { receiver = t; message = w }

    begun : is_there s.first ≡ true → BoundedMessage s.message
        → BoundedJournal n (with_line (user_line s) nothing_yet)
    begun t w = one_line (user_line s) nothing_yet (user_hand t w) (λ l i. elim i [ ])

    vain : BoundedMessage s.message → BoundedReply (user_in_vain s)
    vain w = vain_bounded (asked_by (hand_of (user_line s))) (asked_bounded (hand_of (user_line s)) w)

    request_bounded : (j : Journal) (y : Reply) → is_there s.first ≡ true → BoundedMessage s.message
        → IsRequest s most j y → BoundedReply y × BoundedJournal n j
    request_bounded _ _ t w (not_heard e) = (vain w, begun t w)
    request_bounded _ _ t w (not_told y e d) = (vain w, (comes _ _ _ d (user_hand t w) (begun t w)).1)
    request_bounded _ _ t w (answers y e d) =
        (let x = comes _ _ _ d (user_hand t w) (begun t w) in (x.0.reply, x.1))

pub does_bounded : DoesBounded
does_bounded n s most x i j hold bounded asks d =
    comes n s most (knowledge_names_agents n s hold) bounded asks x i j d

pub requests_bounded : RequestsBounded
requests_bounded n s most j y hold bounded t w r =
    request_bounded n s most (knowledge_names_agents n s hold) bounded w.request j y t w r
