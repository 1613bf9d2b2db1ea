-- Each line has its cause: by one induction over all that is done, with what replies rest on; and no line is sent once as
-- many were as the request may take.
use Rattle.std.proofs.Common.{◌≡◌, ℕ, ◌==◌, Bool, true, false, inl, inr, List, [], ◌∷◌, ◌++◌, append_assoc, refl, sym, ap, subst, ◌∙◌, ◌⊎◌, Some, Option}
use Rattle.x5_model.specs.Words.{has}
use Rattle.x5_model.specs.Members.{In, here}
use Rattle.x5_model.specs.References.{Reference}
use Rattle.x5_model.specs.Answers.{Reply}
use Rattle.x5_model.proofs.Decide.{nat_same_decides}
use Rattle.x5_model.proofs.Lists.{in_left, in_right, of_has, has_in}
use Rattle.x5_model_run.specs.Network.{Sent, arrives}
use Rattle.x5_model_run.specs.Journal.{Line, Journal}
use Rattle.x5_model_run.specs.Needs.{due_probes}
use Rattle.x5_model_run.specs.Chain.{Scene}
use Rattle.x5_model_serve.specs.Finding.{Onward}
use Rattle.x5_model_serve.specs.Serving as serving
use Rattle.x5_model_serve.specs.Serving.{Hand, hand, hand_of, Arrives, holds_now, found_at, parts_refs, is_final, is_idle, is_spent, next_line, user_line, nothing_yet, with_line, with_accepted, carried_for, begins_parts, IsRequest, not_heard, not_told, answers, Act, Serves, Follows, Sends, Tries, Spreads, Casts, Gathers, Probes, Updates, loops, is_long, done_before, stuck, nowhere, refers, goes, casts, reads, reads_copy, gives_parts, asks_parts, updates, not_done, does, probes_all, misses, taken, breaks, no_probe, clear, holds_back, spent, lost, dropped, sends, final, referral, wide_referral, unexplored, none_yet, in_vain_too, none_asked, unable_too, silent_too, answered, nobody_has, some_silent, no_part, part_unheard, part_unavailable, part_answered, part_breaks}
use Rattle.x5_model_serve.proofs.Finals.{leaves}
use Rattle.x5_model_local.specs.Hearing as hearing
use Rattle.x5_model_local.specs.Hearing.{InVain, Cleared}
use Rattle.x5_model_local.specs.Telling.{Told}
use Rattle.x5_model_local.specs.Doing.{Later, NotedTold, AtUpdate, ByAgents}
use Rattle.x5_model_local.specs.Sending.{IsPassed, SentBy, itself, follower, IsSentFor, IsCaused, begins, follows, IsLicensed, AllCaused, RequestsAreCaused}
use Rattle.x5_model_local.proofs.Staying.{takes_stays}
use Rattle.x5_model_local.proofs.Lifting.{false_true, referred_by}
use Rattle.x5_model_local.proofs.Induction.{one_more, accepts_more, held_then, follows_parts, untried_takes, whatever}

-- ---- it stays where agents accept more

nothing_more : {A : Type 0} (xs : List A) → xs ++ [] ≡ xs
nothing_more [] = refl
nothing_more {A} (x ∷ xs) = ap (λ (ys : List A). x ∷ ys) (nothing_more xs)

cause_stays : (s : Scene) (most : ℕ) (i j : Journal) → Later most i j → (before : List Line) (l : Line) → IsCaused s i before l → IsCaused s j before l
cause_stays s most i j later _ l (begins f) = begins f
cause_stays s most i j later before l (follows f) = follows (record {
  opener = f.opener;
  stands = f.stands;
  arrived = f.arrived;
  reference = f.reference;
  takes = takes_stays s most i j later f.takes;
  carries = f.carries;
  sent_by = f.sent_by;
  earlier = f.earlier;
  later = f.later;
  listed = f.listed;
  passed = f.passed;
})

all_stay : (s : Scene) (most : ℕ) (i j : Journal) → Later most i j → (lines : List Line) → AllCaused s i lines → AllCaused s j lines
all_stay s most i j later [] a = tt
all_stay s most i j later (l ∷ before) a =
    (record { number_is = a.0.number_is; fate_is = a.0.fate_is; cause = cause_stays s most i j later before l a.0.cause }, all_stay s most i j later before a.1)

-- ---- whoever may send for an opener

record MaySend (s : Scene) (i : Journal) (from : Option ℕ) (o : Hand) : Type 0 where
  opener : Line
  stands : In opener i.lines
  is : hand_of opener ≡ o
  arrived : arrives opener.fate ≡ true
  sender : (from ≡ Some o.receiver) ⊎ ((from ≡ opener.sender) × (opener.fate ≡ Sent) × (is_idle s o ≡ true))

may_stay : {s : Scene} {most : ℕ} {i j : Journal} {from : Option ℕ} {o : Hand} → Later most i j → MaySend s i from o → MaySend s j from o
may_stay later m = record { opener = m.opener; stands = later.lines m.opener m.stands; is = m.is; arrived = m.arrived; sender = m.sender }

-- the agents before it were passed
record Turn (s : Scene) (i : Journal) (o : Hand) (r : Reference) (a : ℕ) : Type 0 where
  earlier : List ℕ
  later : List ℕ
  listed : r.agents ≡ earlier ++ a ∷ later
  passed : (b : ℕ) → In b earlier → IsPassed s i.lines o r b

sent_for : (s : Scene) (i : Journal) (from : Option ℕ) (o : Hand) (r : Reference) (a : ℕ) → MaySend s i from o → hearing.Takes s i o r → Turn s i o r a
    → IsLicensed s i i.lines (next_line s i from o r a)
sent_for s i from o r a m t turn = record {
  number_is = refl;
  fate_is = refl;
  cause = follows (by o m.is m.sender t turn);
}
  where
    by : (x : Hand) → hand_of m.opener ≡ x → (from ≡ Some x.receiver) ⊎ ((from ≡ m.opener.sender) × (m.opener.fate ≡ Sent) × (is_idle s x ≡ true))
        → hearing.Takes s i x r → Turn s i x r a → IsSentFor s i i.lines (next_line s i from x r a)
    by x e who takes turn =
        subst (λ (y : Hand). (from ≡ Some y.receiver) ⊎ ((from ≡ m.opener.sender) × (m.opener.fate ≡ Sent) × (is_idle s y ≡ true)) → hearing.Takes s i y r → Turn s i y r a → IsSentFor s i i.lines (next_line s i from y r a)) e
        at who takes turn
      where
        at : (from ≡ Some m.opener.receiver) ⊎ ((from ≡ m.opener.sender) × (m.opener.fate ≡ Sent) × (is_idle s (hand_of m.opener) ≡ true))
            → hearing.Takes s i (hand_of m.opener) r → Turn s i (hand_of m.opener) r a → IsSentFor s i i.lines (next_line s i from (hand_of m.opener) r a)
        at w t q = record {
          opener = m.opener;
          stands = m.stands;
          arrived = m.arrived;
          reference = r;
          takes = t;
          carries = refl;
          sent_by = who_sends w;
          earlier = q.earlier;
          later = q.later;
          listed = q.listed;
          passed = q.passed;
        }
          where
            who_sends : (from ≡ Some m.opener.receiver) ⊎ ((from ≡ m.opener.sender) × (m.opener.fate ≡ Sent) × (is_idle s (hand_of m.opener) ≡ true))
                → SentBy s m.opener (next_line s i from (hand_of m.opener) r a)
            who_sends (inl f) = itself f
            who_sends (inr f) = follower f.0 f.1 f.2

noted_passed : {s : Scene} {o : Hand} {r : Reference} {agents noted : List ℕ} {j : Journal} → NotedTold s o r agents noted j → (b : ℕ) → In b agents → IsPassed s j.lines o r b
noted_passed {s} {o} {r} {agents} {noted} {j} n b i = by (has ◌==◌ noted b) refl
  where
    by : (c : Bool) → has ◌==◌ noted b ≡ c → IsPassed s j.lines o r b
    by true e = inl (n.vain b (of_has ◌==◌ nat_same_decides b noted e))
    by false e = inr (n.cleared b i (λ m. false_true (sym e ∙ has_in ◌==◌ nat_same_decides b noted m)))

module _ (s : Scene) (most : ℕ) where
  -- the agents of a loop begin the reference's
  abbrev Begins : List ℕ → Reference → Type 0
  Begins agents r = (after : List ℕ) × (r.agents ≡ agents ++ after)

  abbrev Premise : Act → Journal → Type 0
  Premise (Serves k y) i = MaySend s i (Some k.receiver) k
  Premise (Follows from k y last) i = (is_final y ≡ false → MaySend s i from k) × Told s most i k y
  Premise (Sends from o r a h) i = MaySend s i from o × hearing.Takes s i o r × Turn s i o r a
  Premise (Tries from o r agents) i = MaySend s i from o × hearing.Takes s i o r × Begins agents r
  Premise (serving.Takes from o r h) i = MaySend s i from o × hearing.Takes s i o r
  Premise (Spreads from o r agents noted) i = MaySend s i from o × hearing.Takes s i o r × Begins agents r
  Premise (Casts from o r y) i = MaySend s i from o × hearing.Takes s i o r
  Premise (Gathers from o rs a whole) i = MaySend s i from o × ((r : Reference) → In r rs → hearing.Takes s i o r)
  Premise (Probes k r agents noted) i = MaySend s i (Some k.receiver) k × hearing.Takes s i k r × Begins agents r
  Premise (Updates k y) i = MaySend s i (Some k.receiver) k × AtUpdate s k i

  abbrev All : Journal → Type 0
  All j = AllCaused s j j.lines

  turn_is : (o : Hand) (r : Reference) (a : ℕ) (before after : List ℕ) (j : Journal) → r.agents ≡ before ++ a ∷ after → ((b : ℕ) → In b before → IsPassed s j.lines o r b) → Turn s j o r a
  turn_is o r a before after j e f = record { earlier = before; later = after; listed = e; passed = f }

  turn_more : (o : Hand) (r : Reference) (a : ℕ) (before : List ℕ) (j : Journal) → Begins (before ++ a ∷ []) r → ((b : ℕ) → In b before → IsPassed s j.lines o r b) → Turn s j o r a
  turn_more o r a before j w f = turn_is o r a before w.0 j (w.1 ∙ append_assoc before (a ∷ []) w.0) f

  before_of : (a : ℕ) (before : List ℕ) (r : Reference) → Begins (before ++ a ∷ []) r → Begins before r
  before_of a before r w = (a ∷ w.0, w.1 ∙ append_assoc before (a ∷ []) w.0)

  fresh : (from : Option ℕ) (o : Hand) (r : Reference) (a : ℕ) (i : Journal) → MaySend s i from o × hearing.Takes s i o r × Turn s i o r a → All i
      → All (with_line (next_line s i from o r a) i)
  fresh from o r a i p q =
      let x = next_line s i from o r a in
      all_stay s most i (with_line x i) (one_more most x i) (x ∷ i.lines) (sent_for s i from o r a p.0 p.1 p.2, q)

  served : (from : Option ℕ) (o : Hand) (r : Reference) (a : ℕ) (i : Journal) → arrives (next_line s i from o r a).fate ≡ true
      → MaySend s (with_line (next_line s i from o r a) i) (Some a) (hand a (carried_for from o r))
  served from o r a i e = record { opener = next_line s i from o r a; stands = here; is = refl; arrived = e; sender = inl refl }

  probed_by : (k : Hand) (r : Reference) (i : Journal) → AtUpdate s k i → due_probes (holds_now s i k) k.message ≡ r ∷ [] → hearing.Takes s i k r
  probed_by k r i u e = hearing.probe (holds_now s i k) (held_then s i k) u.looked (subst (In r) (sym e) here)

  goes_by : (k : Hand) (r : Reference) (i : Journal) → Arrives s k i → found_at s i k ≡ Onward r → hearing.Takes s i k r
  goes_by k r i v e = hearing.onward (holds_now s i k) (held_then s i k) (v.unrefused, v.fit) e

  causes : (x : Act) (i j : Journal) → serving.Does s most x i j → ByAgents x → Premise x i → All i → All j
  causes _ _ _ (loops e) by p q = q
  causes _ _ _ (is_long e f) by p q = q
  causes _ _ _ (done_before e f g) by p q = q
  causes _ _ _ (serving.refused x e f g h) by p q = q
  causes _ _ _ (serving.unfit e f g h n) by p q = q
  causes _ _ _ (stuck v e) by p q = q
  causes _ _ _ (nowhere n v e) by p q = q
  causes _ _ _ (refers r v e f) by p q = q
  causes _ _ _ (goes {k} {i} r h v e f g d) by p q = causes _ _ _ d refl (p, goes_by k r i v e) q
  causes _ _ _ (casts {k} {i} r y v e f g d) by p q = causes _ _ _ d refl (p, goes_by k r i v e) q
  causes _ _ _ (reads c v e f g) by p q = q
  causes _ _ _ (reads_copy c v e f) by p q = q
  causes _ _ _ (gives_parts a v b f e) by p q = q
  causes _ _ _ (asks_parts {k} {i} a w v b f e d) by p q =
      causes _ _ _ d refl (p, λ r m. hearing.part (holds_now s i k) (held_then s i k) (v.unrefused, v.fit) b m) q
  causes _ _ _ (updates {k} {i} c y v e f d) by p q =
      causes _ _ _ d tt (p, record { looked = (v.unrefused, v.fit); context = c; found = e; update = f }) q
  causes _ _ _ (not_done x e) by p q = q
  causes _ _ _ (does {k} {j} mine e f) by p q = all_stay s most j (with_accepted k.receiver j) (accepts_more most k.receiver j) j.lines q
  causes _ _ _ (probes_all {k} {i} {j} mine r e f d) by p q =
      all_stay s most j (with_accepted k.receiver j) (accepts_more most k.receiver j) j.lines
      (causes _ _ _ d tt (p.0, probed_by k r i p.1 f, ([], sym (nothing_more r.agents))) q)
  causes _ _ _ (misses {k} {i} mine r a noted e f d) by p q =
      causes _ _ _ d tt (p.0, probed_by k r i p.1 f, ([], sym (nothing_more r.agents))) q
  causes _ _ _ (taken {k} {i} {j} mine r a b c n y e f g d u) by p q =
      let w = whatever s most _ _ _ d tt in
      causes _ _ _ u refl (may_stay w.later p.0, takes_stays s most i j w.later (probed_by k r i p.1 f), turn_is k r a b c j g (noted_passed w.told))
      (causes _ _ _ d tt (p.0, probed_by k r i p.1 f, (a ∷ c, g)) q)
  causes _ _ _ (breaks {k} {i} {j} mine r a b c n x e f g h m d u) by p q =
      let w = whatever s most _ _ _ d tt in
      causes _ _ _ u refl (may_stay w.later p.0, takes_stays s most i j w.later (probed_by k r i p.1 f), turn_is k r a b c j g (noted_passed w.told))
      (causes _ _ _ d tt (p.0, probed_by k r i p.1 f, (a ∷ c, g)) q)
  causes _ _ _ no_probe by p q = q
  causes _ _ _ (clear {k} {r} {i} {j} {l} {before} {noted} a y e d u) by p q =
      let w = whatever s most _ _ _ d tt in
      causes _ _ _ u refl (may_stay w.later p.0, takes_stays s most i j w.later p.1, turn_more k r a before j p.2 (noted_passed w.told))
      (causes _ _ _ d tt (p.0, p.1, before_of a before r p.2) q)
  causes _ _ _ (serving.unsure {k} {r} {i} {j} {l} {before} {noted} a y e d u) by p q =
      let w = whatever s most _ _ _ d tt in
      causes _ _ _ u refl (may_stay w.later p.0, takes_stays s most i j w.later p.1, turn_more k r a before j p.2 (noted_passed w.told))
      (causes _ _ _ d tt (p.0, p.1, before_of a before r p.2) q)
  causes _ _ _ (serving.silent {k} {r} {i} {j} {l} {before} {noted} a d u) by p q =
      let w = whatever s most _ _ _ d tt in
      causes _ _ _ u refl (may_stay w.later p.0, takes_stays s most i j w.later p.1, turn_more k r a before j p.2 (noted_passed w.told))
      (causes _ _ _ d tt (p.0, p.1, before_of a before r p.2) q)
  causes _ _ _ (holds_back a e) by p q = q
  causes _ _ _ (spent a free e) by p q = q
  causes _ _ _ (lost {from} {o} {r} {j} a free e f) by p q = fresh from o r a j p q
  causes _ _ _ (dropped {from} {o} {r} {i} {j} a y free e f d) by p q =
      causes _ _ _ d tt (served from o r a i (ap arrives f)) (fresh from o r a i p q)
  causes _ _ _ (sends {from} {o} {r} {i} {j} {l} a y last free e f d u) by p q =
      let x = next_line s i from o r a in
      let w = whatever s most _ _ _ d tt in
      causes _ _ _ u by (
        λ n. record {
          opener = x;
          stands = w.later.lines x here;
          is = refl;
          arrived = ap arrives f;
          sender = inr (refl, f, idle n (leaves s most _ _ _ d));
        },
        w.told,
      )
      (causes _ _ _ d tt (served from o r a i (ap arrives f)) (fresh from o r a i p q))
    where
      idle : is_final y ≡ false → (is_final y ≡ true) ⊎ ((is_idle s (hand a (carried_for from o r)) ≡ true) × (j ≡ with_line (next_line s i from o r a) i))
          → is_idle s (hand a (carried_for from o r)) ≡ true
      idle n (inl m) = absurd (false_true (sym n ∙ m))
      idle n (inr m) = m.0
  causes _ _ _ (final y e) by p q = q
  causes _ _ _ (referral {from} {k} {i} {j} r h e d) by p q =
      let w = referred_by r p.1 refl in causes _ _ _ d by (p.0 refl, hearing.onward w.0.holds w.0.at_time w.0.looked w.1) q
  causes _ _ _ (wide_referral {from} {k} {i} {j} r y e d) by p q =
      let w = referred_by r p.1 refl in causes _ _ _ d by (p.0 refl, hearing.onward w.0.holds w.0.at_time w.0.looked w.1) q
  causes _ _ _ (unexplored {from} {k} {i} {j} a whole e d) by p q =
      causes _ _ _ d by (p.0 e, untried_takes s most k a i (follows_parts s most k a i p.1 e)) q
  causes _ _ _ none_yet by p q = q
  causes _ _ _ (in_vain_too {from} {o} {r} {i} {j} {l} {before} a d u) by p q =
      let w = whatever s most _ _ _ d by in
      causes _ _ _ u by (may_stay w.later p.0, takes_stays s most i j w.later p.1, turn_more o r a before j p.2 (λ b m. inl (w.told b m)))
      (causes _ _ _ d by (p.0, p.1, before_of a before r p.2) q)
  causes _ _ _ (serving.heard {from} {o} {r} {i} {j} {l} b c a y e d u) by p q =
      let w = whatever s most _ _ _ d by in
      causes _ _ _ u by (may_stay w.later p.0, takes_stays s most i j w.later p.1, turn_is o r a b c j e (λ z m. inl (w.told z m)))
      (causes _ _ _ d by (p.0, p.1, (a ∷ c, e)) q)
  causes _ _ _ (serving.unheard {from} {o} {r} d) by p q = causes _ _ _ d by (p.0, p.1, ([], sym (nothing_more r.agents))) q
  causes _ _ _ none_asked by p q = q
  causes _ _ _ (unable_too {from} {o} {r} {i} {j} {l} {before} {noted} a y e d u) by p q =
      let w = whatever s most _ _ _ d by in
      causes _ _ _ u by (may_stay w.later p.0, takes_stays s most i j w.later p.1, turn_more o r a before j p.2 (noted_passed w.told))
      (causes _ _ _ d by (p.0, p.1, before_of a before r p.2) q)
  causes _ _ _ (silent_too {from} {o} {r} {i} {j} {l} {before} {noted} a d u) by p q =
      let w = whatever s most _ _ _ d by in
      causes _ _ _ u by (may_stay w.later p.0, takes_stays s most i j w.later p.1, turn_more o r a before j p.2 (noted_passed w.told))
      (causes _ _ _ d by (p.0, p.1, before_of a before r p.2) q)
  causes _ _ _ (answered {from} {o} {r} {i} {j} {l} b c n a y e f d u) by p q =
      let w = whatever s most _ _ _ d by in
      causes _ _ _ u by (may_stay w.later p.0, takes_stays s most i j w.later p.1, turn_is o r a b c j e (noted_passed w.told))
      (causes _ _ _ d by (p.0, p.1, (a ∷ c, e)) q)
  causes _ _ _ (nobody_has {from} {o} {r} d) by p q = causes _ _ _ d by (p.0, p.1, ([], sym (nothing_more r.agents))) q
  causes _ _ _ (some_silent {from} {o} {r} n e d) by p q = causes _ _ _ d by (p.0, p.1, ([], sym (nothing_more r.agents))) q
  causes _ _ _ no_part by p q = q
  causes _ _ _ (part_unheard {from} {o} {i} {j} {l} {rs} r d u) by p q =
      let w = whatever s most _ _ _ d by in
      causes _ _ _ u by (may_stay w.later p.0, takes_stays s most i j w.later (p.1 r (in_right r rs (r ∷ []) here)))
      (causes _ _ _ d by (p.0, λ z m. p.1 z (in_left z rs (r ∷ []) m)) q)
  causes _ _ _ (part_unavailable {from} {o} {i} {j} {l} {rs} r z d u) by p q =
      let w = whatever s most _ _ _ d by in
      causes _ _ _ u by (may_stay w.later p.0, takes_stays s most i j w.later (p.1 r (in_right r rs (r ∷ []) here)))
      (causes _ _ _ d by (p.0, λ x m. p.1 x (in_left x rs (r ∷ []) m)) q)
  causes _ _ _ (part_answered {from} {o} {i} {j} {l} {rs} r c d u) by p q =
      let w = whatever s most _ _ _ d by in
      causes _ _ _ u by (may_stay w.later p.0, takes_stays s most i j w.later (p.1 r (in_right r rs (r ∷ []) here)))
      (causes _ _ _ d by (p.0, λ x m. p.1 x (in_left x rs (r ∷ []) m)) q)
  causes _ _ _ (part_breaks {from} {o} {i} {j} {l} before after r x e d u) by p q =
      let w = whatever s most _ _ _ d by in
      causes _ _ _ u by (may_stay w.later p.0, takes_stays s most i j w.later (p.1 r (in_right r before (r ∷ after) here)))
      (causes _ _ _ d by (p.0, λ z m. p.1 z (in_left z before (r ∷ after) m)) q)

  -- ---- a request
  begun : All (with_line (user_line s) nothing_yet)
  begun = (
    record {
      number_is = refl;
      fate_is = refl;
      cause = begins (record { sender_is = refl; receiver_is = refl; message_is = refl });
    },
    tt,
  )

  first_may : arrives (user_line s).fate ≡ true → MaySend s (with_line (user_line s) nothing_yet) (Some s.first) (hand s.first s.message)
  first_may e = record { opener = user_line s; stands = here; is = refl; arrived = e; sender = inl refl }

  pub request_caused : (j : Journal) (y : Reply) → IsRequest s most j y → All j
  request_caused _ _ (not_heard e) = begun
  request_caused _ _ (not_told y e d) = causes _ _ _ d tt (first_may (ap arrives e)) begun
  request_caused _ _ (answers y e d) = causes _ _ _ d tt (first_may (ap arrives e)) begun

pub requests_are_caused : RequestsAreCaused
requests_are_caused s most j y is = request_caused s most j y is
