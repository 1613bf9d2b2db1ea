-- What each thing that is done costs, by one induction over all that is done: a premise's cost is an inequality without
-- subtraction, and they add.
use Rattle.std.proofs.Common.{◌≡◌, ℕ, ◌+◌, ◌*◌, ◌≤◌, Bool, true, false, ◌&&◌, ◌==◌, inl, inr, List, [], ◌∷◌, ◌++◌, length, refl, sym, ap, subst, ◌∙◌, arith, Option, Some, if◌then◌else◌}
use Rattle.std.proofs.lemmas.Bool.Decides.{Decides-eqb}
use Rattle.std.proofs.lemmas.Nat.{mul-le}
use Rattle.x5_model.specs.Words.{has}
use Rattle.x5_model.specs.Members.{In, here}
use Rattle.x5_model.specs.Keys.{Key}
use Rattle.x5_model.specs.Values.{key_of}
use Rattle.x5_model.specs.References.{Reference, Chained}
use Rattle.x5_model.specs.Answers.{Answered, Failed}
use Rattle.x5_model.proofs.Lists.{in_first, in_left, in_right, or_left}
use Rattle.x5_model_tree.specs.Ask.{is_update}
use Rattle.x5_model_run.specs.Journal.{Line, Journal}
use Rattle.x5_model_run.specs.Holdings.{Holdings}
use Rattle.x5_model_run.specs.Needs.{resolves, due_probes}
use Rattle.x5_model_run.specs.History.{Point, knowledge_at}
use Rattle.x5_model_run.specs.Stage.{nssr_pairs}
use Rattle.x5_model_tree.specs.Masters.{mastered}
use Rattle.x5_model_run.specs.Chain.{Scene}
use Rattle.x5_model_run.specs.Right.{master_at}
use Rattle.x5_model_serve.specs.Finding.{Here, Onward, Stuck, Found, find, IsLooked}
use Rattle.x5_model_serve.specs.Answering.{rest_of_parts, own_source, copy_source, is_unavailable, in_vain, to_follow}
use Rattle.x5_model_serve.specs.Serving.{Hand, holds_now, found_at, begins_parts, Arrives, line_for, carried_for, next_line, line_of, with_line, with_accepted, parts_refs, heard_or, is_final, Heard, Unheard, Hears, Act, Does, loops, is_long, done_before, refused, unfit, stuck, nowhere, refers, goes, casts, reads, reads_copy, gives_parts, asks_parts, updates, not_done, does, probes_all, misses, taken, breaks, no_probe, clear, unsure, silent, holds_back, spent, lost, dropped, sends, final, referral, wide_referral, unexplored, none_yet, in_vain_too, heard, unheard, none_asked, unable_too, silent_too, answered, nobody_has, some_silent, no_part, part_unheard, part_unavailable, part_answered, part_breaks}
use Rattle.x5_model_serve.specs.Committed.{committed}
use Rattle.x5_model_serve.specs.Claims.{Setting}
use Rattle.x5_model_serve.specs.Following.{IsFinalHeard}
use Rattle.x5_model_run.proofs.Carrying.{is_carried}
use Rattle.x5_model_serve.proofs.Carrying.{resolving}
use Rattle.x5_model_serve.proofs.Finals.{leaves}
use Rattle.x5_model_bounds.specs.Costs.{total, whole_cost, Costs, serving_cost}
use Rattle.x5_model_bounds.specs.Bounds.{Ready, Stays, Carries, Payable, heard_cost, After, asks_of, cost_of, Pays, ResolutionPays, PartsPay, ProbesPay, JudgeIsMaster, ServingPays}
use Rattle.x5_model_bounds.specs.Unable.{RepliesAble}
use Rattle.x5_model_bounds.proofs.Parting.{rest_part, local_whole, left_parts, told_final}
use Rattle.x5_model_bounds.proofs.Unables.{false_true, unables}
use Rattle.x5_model_bounds.proofs.Costing.{costs_more, costs_line, costs_dropped, total_last, total_within, length_last, length_within, stays_lined, after_none, after_then, after_more}

module _ (p : Point) (s : Scene) where
  stays_as : (a b : Bool) (j : Journal) → a ≡ b → Stays p s a j → Stays p s b j
  stays_as a b j e st = subst (λ (x : Bool). Stays p s x j) e st

  stays_at : (u : Bool) (i j : Journal) → j ≡ i → Stays p s u i → Stays p s u j
  stays_at u i j e st = subst (λ (x : Journal). Stays p s u x) (sym e) st

  after_as : (a b : Bool) (i j : Journal) (n : ℕ) → a ≡ b → After p s a i j n → After p s b i j n
  after_as a b i j n e x = subst (λ (y : Bool). After p s y i j n) e x

  -- a line, and what follows it
  after_line : (u : Bool) (l : Line) (i : Journal) → Stays p s u i → After p s u i (with_line l i) 1
  after_line u l i st = record { stays = stays_lined p s u l i st; costs = costs_line s (whole_cost p) l i }

  carries_of : (from : Option ℕ) (o : Hand) (r : Reference) (xs ys : List ℕ) (n : ℕ) (u : Bool) → ((a : ℕ) → In a xs → In a ys) → Carries p s from o r ys n u → Carries p s from o r xs n u
  carries_of from o r xs ys n u f c = record {
    ready = λ a i m d. c.ready a (f a i) m d;
    within = λ a i m d. c.within a (f a i) m d;
    asking = λ a i m d. c.asking a (f a i) m d;
  }

  -- what an agent holds by then is what it holds
  not_accepted : (k : Hand) (j : Journal) (x : Found) → Stays p s (asks_of k) j → Arrives s k j → found_at s j k ≡ x → (x ≡ Stuck → ⊥) → has ◌==◌ j.accepted k.receiver ≡ false
  not_accepted k j x st a e free =
      elim st.quiet [
        | inl asks ↦ go (asks_of k) (has ◌==◌ j.accepted k.receiver) (resolves (holds_now s j k) k.message) asks (resolving s k j x a asks e free) a.fresh
        | inr none ↦ ap (λ (xs : List ℕ). has ◌==◌ xs k.receiver) none
      ]
    where
      go : (a b c : Bool) → a ≡ true → c ≡ true → (a && (b && c)) ≡ false → b ≡ false
      go true true true e f g = g
      go true false c e f g = refl
      go true true false e f g = absurd (false_true f)
      go false b c e f g = absurd (false_true e)

  held_as : (k : Hand) (j : Journal) → has ◌==◌ j.accepted k.receiver ≡ false → holds_now s j k ≡ s.holdings k.receiver
  held_as k j e = go (has ◌==◌ j.accepted k.receiver) e
    where
      go : (b : Bool) → b ≡ false → (if b then committed s.message.request (s.holdings k.receiver) else s.holdings k.receiver) ≡ s.holdings k.receiver
      go true e = cc
      go false e = refl

  held_now : (k : Hand) (j : Journal) (x : Found) → Stays p s (asks_of k) j → Arrives s k j → found_at s j k ≡ x → (x ≡ Stuck → ⊥) → holds_now s j k ≡ s.holdings k.receiver
  held_now k j x st a e free = held_as k j (not_accepted k j x st a e free)

  found_now : (k : Hand) (j : Journal) (x : Found) → holds_now s j k ≡ s.holdings k.receiver → found_at s j k ≡ x → find (s.holdings k.receiver) k.message ≡ x
  found_now k j x e f = ap (λ (h : Holdings). find h k.message) (sym e) ∙ f

  looked : (k : Hand) (j : Journal) → Arrives s k j → IsLooked k.message
  looked k j a = (a.unrefused, a.fit)

  -- only the master accepts, so nobody has, where the master judges
  nobody_yet : (k : Hand) (j : Journal) → Stays p s true j → has ◌==◌ j.accepted k.receiver ≡ false → master_at p (key_of s.message.target) ≡ Some k.receiver → j.accepted ≡ []
  nobody_yet k j st none master = go j.accepted st.masters none
    where
      go : (xs : List ℕ) → ((a : ℕ) → In a xs → master_at p (key_of s.message.target) ≡ Some a) → has ◌==◌ xs k.receiver ≡ false → xs ≡ []
      go [] f e = refl
      go (x ∷ xs) f e =
          let same : Some x ≡ Some k.receiver = sym (f x here) ∙ master in
          let is : x ≡ k.receiver = cc in
          absurd (false_true (sym e ∙ or_left (x == k.receiver) (has ◌==◌ xs k.receiver) ((Decides-eqb x k.receiver).1 is)))

  -- the master accepts
  accepts : (k : Hand) (i j : Journal) (u : Bool) (n t : ℕ) → After p s u i j n → n ≤ t → master_at p (key_of s.message.target) ≡ Some k.receiver → After p s true i (with_accepted k.receiver j) t
  accepts k i j u n t a h master = record {
    stays = record {
      masters = λ b ib. elim (in_first b k.receiver j.accepted ib) [ inl e ↦ master ∙ ap Some (sym e) | inr l ↦ a.stays.masters b l ];
      quiet = inl refl;
    };
    costs = costs_more s (whole_cost p) i (with_accepted k.receiver j) n t a.costs h;
  }

  quiet_at : (i : Journal) → Stays p s true i → i.accepted ≡ [] → Stays p s false i
  quiet_at i st e = record { masters = st.masters; quiet = inr e }

  louder : (u : Bool) (i j : Journal) (n t : ℕ) → After p s u i j n → n ≤ t → After p s true i j t
  louder u i j n t a h = record { stays = record { masters = a.stays.masters; quiet = inl refl }; costs = costs_more s (whole_cost p) i j n t a.costs h }

-- who begins isn't stuck
begun_free : (k : Hand) (x : Found) → begins_parts k x ≡ true → x ≡ Stuck → ⊥
begun_free k x e f = let g : begins_parts k Stuck ≡ true = subst (λ (y : Found). begins_parts k y ≡ true) f e in false_true g

heard_or_final : (q : Reference) (h : Heard) → IsFinalHeard h → is_final (heard_or (is_unavailable q) h) ≡ true
heard_or_final q Unheard e = refl
heard_or_final q (Hears y) e = e

whole_least : (c a n : ℕ) → 4 ≤ (c + 34) * (a + 9) + n
whole_least c a n = omega (arith, mul-le 34 9 (c + 34) (a + 9) (omega arith) (omega arith))

whole_small : (p : Point) → 4 ≤ whole_cost p
whole_small p = whole_least (length (mastered (knowledge_at p))) (length (knowledge_at p).agents) (nssr_pairs (knowledge_at p))

heard_at_most : (n : ℕ) (h : Heard) → heard_cost n h ≤ 1 + n
heard_at_most n Unheard = omega arith
heard_at_most n (Hears y) = omega arith

-- what probes cost
probe_more : (before : List ℕ) (a : ℕ) (h : Heard) → length before * 5 + heard_cost 4 h ≤ length (before ++ a ∷ []) * 5
probe_more before a h = let l : length before + 1 ≡ length (before ++ a ∷ []) = length_last before a in let c : heard_cost 4 h ≤ 1 + 4 = heard_at_most 4 h in omega arith

probe_within : (agents before : List ℕ) (a : ℕ) (after : List ℕ) (h : Heard) (n : ℕ) → agents ≡ before ++ a ∷ after → length agents * 5 ≤ n → length before * 5 + heard_cost 4 h ≤ n
probe_within agents before a after h n e le = let l : length before + 1 ≤ length agents = length_within agents before a after e in let c : heard_cost 4 h ≤ 1 + 4 = heard_at_most 4 h in omega arith

-- what a reference costs: some agents in vain, and one that is heard
taken_within : (agents before : List ℕ) (a : ℕ) (after : List ℕ) (each n : ℕ) → agents ≡ before ++ a ∷ after → length agents + each ≤ n → length before + (1 + each) ≤ n
taken_within agents before a after each n e le = let l : length before + 1 ≤ length agents = length_within agents before a after e in omega arith

in_before : (agents before : List ℕ) (a : ℕ) (after : List ℕ) → agents ≡ before ++ a ∷ after → (b : ℕ) → In b before → In b agents
in_before agents before a after e b i = subst (λ (xs : List ℕ). In b xs) (sym e) (in_left b before (a ∷ after) i)

in_middle : (agents before : List ℕ) (a : ℕ) (after : List ℕ) → agents ≡ before ++ a ∷ after → (b : ℕ) → In b (a ∷ []) → In b agents
in_middle agents before a after e b i =
    elim (in_first b a [] i) [
      | inl q ↦ subst (λ (xs : List ℕ). In b xs) (sym e) (in_right b before (a ∷ after) (subst (λ (x : ℕ). In x (a ∷ after)) (sym q) here))
      | inr l ↦ elim l [ ]
    ]

module _ (resolution : ResolutionPays) (parts : PartsPay) (probes : ProbesPay) (judge : JudgeIsMaster) (able : RepliesAble) (p : Point) (s : Scene) (most : ℕ) (set : Setting p s) where
  -- what an idle agent leaves is paid as what it would have done itself
  goes_on : (from : Option ℕ) (k : Hand) (r : Reference) → Ready p s k → IsLooked k.message → find (s.holdings k.receiver) k.message ≡ Onward r → Payable p s from k r (cost_of p k) (asks_of k)
  goes_on from k r ready look e = resolution p s from k r set ready look e

  small : 4 ≤ whole_cost p
  small = whole_small p

  -- the probes that are due, where nobody accepted yet
  due : (k : Hand) (i : Journal) (r : Reference) → Ready p s k → i.accepted ≡ [] → due_probes (holds_now s i k) k.message ≡ r ∷ []
      → (length r.agents * 5 ≤ cost_of p k) × Carries p s (Some k.receiver) k r r.agents 4 false
  due k i r ready empty e =
      let none : has ◌==◌ i.accepted k.receiver ≡ false = ap (λ (xs : List ℕ). has ◌==◌ xs k.receiver) empty in
      probes p s k r set ready (ap (λ (h : Holdings). due_probes h k.message) (sym (held_as p s k i none)) ∙ e)

  -- one more probe
  probed : (k : Hand) (r : Reference) (i j l : Journal) (before : List ℕ) (a : ℕ) (h : Heard)
      → (Carries p s (Some k.receiver) k r before 4 false → 4 ≤ whole_cost p → Stays p s false i → After p s false i j (length before * 5))
      → ((n : ℕ) (asks : Bool) → Carries p s (Some k.receiver) k r (a ∷ []) n asks → n ≤ whole_cost p → Stays p s asks j → After p s asks j l (heard_cost n h))
      → Carries p s (Some k.receiver) k r (before ++ a ∷ []) 4 false → Stays p s false i → After p s false i l (length (before ++ a ∷ []) * 5)
  probed k r i j l before a h first next carries st =
      let up = first (carries_of p s (Some k.receiver) k r before (before ++ a ∷ []) 4 false (in_before (before ++ a ∷ []) before a [] refl) carries) small st in
      let last = next 4 false (carries_of p s (Some k.receiver) k r (a ∷ []) (before ++ a ∷ []) 4 false (in_middle (before ++ a ∷ []) before a [] refl) carries) small up.stays in
      after_then p s false i j l (length before * 5) (heard_cost 4 h) (length (before ++ a ∷ []) * 5) up last (probe_more before a h)

  -- one more part
  gathered : (from : Option ℕ) (o : Hand) (r : Reference) (i j l : Journal) (rs : List Reference)
      → ((cost : Reference → ℕ) (asks : Bool) → ((q : Reference) → In q rs → Payable p s from o q (cost q) asks) → Stays p s asks i → After p s asks i j (total cost rs))
      → ((n : ℕ) (asks : Bool) → Payable p s from o r n asks → Stays p s asks j → After p s asks j l n)
      → (cost : Reference → ℕ) (asks : Bool) → ((q : Reference) → In q (rs ++ r ∷ []) → Payable p s from o q (cost q) asks) → Stays p s asks i → After p s asks i l (total cost (rs ++ r ∷ []))
  gathered from o r i j l rs first next cost asks pay st =
      let up = first cost asks (λ q iq. pay q (in_left q rs (r ∷ []) iq)) st in
      let last = next (cost r) asks (pay r (in_right r rs (r ∷ []) here)) up.stays in
      after_then p s asks i j l (total cost rs) (cost r) (total cost (rs ++ r ∷ [])) up last (omega (arith, total_last cost rs r))

  pays : (x : Act) (i j : Journal) → Does s most x i j → Pays p s x i j
  pays _ _ _ (loops {k} {j} e) = λ ready st. inl (refl, after_none p s (asks_of k) j (cost_of p k) st)
  pays _ _ _ (is_long {k} {j} e f) = λ ready st. inl (refl, after_none p s (asks_of k) j (cost_of p k) st)
  pays _ _ _ (done_before {k} {j} e f g) = λ ready st. inl (refl, after_none p s (asks_of k) j (cost_of p k) st)
  pays _ _ _ (refused {k} {j} x e f g h) = λ ready st. inl (refl, after_none p s (asks_of k) j (cost_of p k) st)
  pays _ _ _ (unfit {k} {j} e f g h i) = λ ready st. inl (refl, after_none p s (asks_of k) j (cost_of p k) st)
  pays _ _ _ (stuck {k} {j} a e) = λ ready st. inl (refl, after_none p s (asks_of k) j (cost_of p k) st)
  pays _ _ _ (nowhere {k} {j} n a e) = λ ready st. inl (refl, after_none p s (asks_of k) j (cost_of p k) st)
  pays _ _ _ (refers {k} {j} r a e f) = λ ready st. inr ((found_now p s k j (Onward r) (held_now p s k j (Onward r) st a e (λ z. cc)) e, looked p s k j a), refl)
  pays _ _ _ (goes {k} {i} {j} r h a e f g d) =
      let next = pays _ _ _ d in
      let is_last = leaves s most _ _ _ d in
      λ ready st.
      inl (heard_or_final (in_vain r) h is_last, next (cost_of p k) (asks_of k) (goes_on (Some k.receiver) k r ready (looked p s k i a) (found_now p s k i (Onward r) (held_now p s k i (Onward r) st a e (λ z. cc)) e)) st)
  pays _ _ _ (casts {k} {i} {j} r y a e f g d) =
      let next = pays _ _ _ d in
      let is_last = leaves s most _ _ _ d in
      λ ready st.
      inl (is_last, next (cost_of p k) (asks_of k) (goes_on (Some k.receiver) k r ready (looked p s k i a) (found_now p s k i (Onward r) (held_now p s k i (Onward r) st a e (λ z. cc)) e)) st)
  pays _ _ _ (reads {k} {j} c a e f g) = λ ready st. inl (told_final (own_source k.receiver c ∷ []) _, after_none p s (asks_of k) j (cost_of p k) st)
  pays _ _ _ (reads_copy {k} {j} c a e f) = λ ready st. inl (told_final (copy_source k.receiver c ∷ []) _, after_none p s (asks_of k) j (cost_of p k) st)
  pays _ _ _ (gives_parts {k} {j} y a e f g) = λ ready st.
      let held = held_now p s k j (found_at s j k) st a refl (begun_free k (found_at s j k) e) in
      elim (left_parts k.message.request.controls.size (parts_refs s j k) y (local_whole (holds_now s j k) k.message y g) (λ r i. (rest_part (holds_now s j k) k.message r i).1)) [
        | inl q ↦ inr ((ap (λ (h : Holdings). begins_parts k (find h k.message)) (sym held) ∙ e, q ∙ ap (λ (h : Holdings). rest_of_parts h k.message) held, looked p s k j a), refl)
        | inr q ↦ inl (q, after_none p s (asks_of k) j (cost_of p k) st)
      ]
  pays _ _ _ (asks_parts {k} {i} {j} y w a e f g d) =
      let next = pays _ _ _ d in
      let left = leaves s most _ _ _ (asks_parts {k = k} {i = i} {j = j} y w a e f g d) in
      λ ready st.
      let held = held_now p s k i (found_at s i k) st a refl (begun_free k (found_at s i k) e) in
      let x = parts p s (Some k.receiver) k set ready (looked p s k i a) (ap (λ (h : Holdings). begins_parts k (find h k.message)) (sym held) ∙ e) in
      let same : parts_refs s i k ≡ rest_of_parts (s.holdings k.receiver) k.message = ap (λ (h : Holdings). rest_of_parts h k.message) held in
      inl (
        elim left [ inl q ↦ q | inr q ↦ absurd (false_true (sym f ∙ q.0)) ],
        after_more p s (asks_of k) i j (total x.0 (parts_refs s i k)) (cost_of p k)
            (next x.0 (asks_of k) (λ r ir. x.2 r (subst (λ (rs : List Reference). In r rs) same ir)) st)
            (subst (λ (rs : List Reference). total x.0 rs ≤ cost_of p k) (sym same) x.1),
      )
  pays _ _ _ (updates {k} {i} {j} c y a e f d) =
      let next = pays _ _ _ d in
      let is_last = leaves s most _ _ _ d in
      λ ready st.
      let none = not_accepted p s k i (Here c) st a e (λ z. cc) in
      let master : master_at p (key_of s.message.target) ≡ Some k.receiver =
      ap (λ (key : Key). master_at p key) (sym (ready.updates f)) ∙ judge p s k c set ready (looked p s k i a) f (found_now p s k i (Here c) (held_now p s k i (Here c) st a e (λ z. cc)) e) in
      let st2 : Stays p s true i = stays_as p s (asks_of k) true i f st in
      inl (is_last, after_as p s true (asks_of k) i j (cost_of p k) (sym f) (next ready st2 (nobody_yet p s k i st2 none master) f master))
  pays _ _ _ (not_done {k} {j} x e) = λ ready st empty asks master. after_none p s true j (cost_of p k) st
  pays _ _ _ (does {k} {j} mine e f) = λ ready st empty asks master. accepts p s k j j true (cost_of p k) (cost_of p k) (after_none p s true j (cost_of p k) st) (omega arith) master
  pays _ _ _ (probes_all {k} {i} {j} mine r e f d) =
      let next = pays _ _ _ d in
      λ ready st empty asks master.
      let x = due k i r ready empty f in
      accepts p s k i j false (length r.agents * 5) (cost_of p k) (next x.1 small (quiet_at p s i st empty)) x.0 master
  pays _ _ _ (misses {k} {i} {j} mine r a noted e f d) =
      let next = pays _ _ _ d in
      λ ready st empty asks master.
      let x = due k i r ready empty f in
      louder p s false i j (length r.agents * 5) (cost_of p k) (next x.1 small (quiet_at p s i st empty)) x.0
  pays _ _ _ (taken {k} {i} {j} {l} mine r a b c n y e f g d u) =
      let first = pays _ _ _ d in
      let next = pays _ _ _ u in
      λ ready st empty asks master.
      let x = due k i r ready empty f in
      let up = first (carries_of p s (Some k.receiver) k r b r.agents 4 false (in_before r.agents b a c g) x.1) small (quiet_at p s i st empty) in
      let last = next 4 false (carries_of p s (Some k.receiver) k r (a ∷ []) r.agents 4 false (in_middle r.agents b a c g) x.1) small up.stays in
      louder p s false i l (cost_of p k) (cost_of p k) (after_then p s false i j l (length b * 5) (heard_cost 4 (Hears (Answered y))) (cost_of p k) up last (probe_within r.agents b a c (Hears (Answered y)) (cost_of p k) g x.0)) (omega arith)
  pays _ _ _ (breaks {k} {i} {j} {l} mine r a b c n y e f g v q d u) =
      let first = pays _ _ _ d in
      let next = pays _ _ _ u in
      λ ready st empty asks master.
      let x = due k i r ready empty f in
      let up = first (carries_of p s (Some k.receiver) k r b r.agents 4 false (in_before r.agents b a c g) x.1) small (quiet_at p s i st empty) in
      let last = next 4 false (carries_of p s (Some k.receiver) k r (a ∷ []) r.agents 4 false (in_middle r.agents b a c g) x.1) small up.stays in
      louder p s false i l (cost_of p k) (cost_of p k) (after_then p s false i j l (length b * 5) (heard_cost 4 (Hears (Failed y))) (cost_of p k) up last (probe_within r.agents b a c (Hears (Failed y)) (cost_of p k) g x.0)) (omega arith)
  pays _ _ _ (no_probe {k} {r} {j}) = λ carries le st. after_none p s false j 0 st
  pays _ _ _ (clear {k} {r} {i} {j} {l} {before} {noted} a y e d u) = (let first = pays _ _ _ d in let next = pays _ _ _ u in λ carries le st. probed k r i j l before a (Hears y) first next carries st)
  pays _ _ _ (unsure {k} {r} {i} {j} {l} {before} {noted} a y e d u) = (let first = pays _ _ _ d in let next = pays _ _ _ u in λ carries le st. probed k r i j l before a (Hears y) first next carries st)
  pays _ _ _ (silent {k} {r} {i} {j} {l} {before} {noted} a d u) = (let first = pays _ _ _ d in let next = pays _ _ _ u in λ carries le st. probed k r i j l before a Unheard first next carries st)
  pays _ _ _ (holds_back {from} {o} {r} {j} a e) = λ n asks carries le st. after_none p s asks j (1 + n) st
  pays _ _ _ (spent {from} {o} {r} {j} a hb e) = λ n asks carries le st. after_none p s asks j (1 + n) st
  pays _ _ _ (lost {from} {o} {r} {j} a hb e f) = λ n asks carries le st. after_line p s asks (next_line s j from o r a) j st
  pays _ _ _ (dropped {from} {o} {r} {i} {j} a y hb e f d) =
      let m : Chained = carried_for from o r in
      let c = is_carried from (line_for o) r in
      let first = pays _ _ _ d in
      λ n asks carries le st.
      let st2 = stays_lined p s asks (line_of s i from a m) i st in
      let is = carries.asking a here m c in
      elim (first (carries.ready a here m c) (stays_as p s asks (is_update m.request.body) (with_line (line_of s i from a m) i) (sym is) st2)) [
        | inl x ↦
            record {
              stays = stays_as p s (is_update m.request.body) asks j is x.1.stays;
              costs = costs_dropped s (whole_cost p) from a m i j n f (costs_more s (whole_cost p) (with_line (line_of s i from a m) i) j (serving_cost p a m) n x.1.costs (carries.within a here m c)) le;
            }
        | inr x ↦
            record {
              stays = stays_at p s asks (with_line (line_of s i from a m) i) j x.1 st2;
              costs = subst (λ (l : Journal). Costs s (whole_cost p) i l 1) (sym x.1) (costs_line s (whole_cost p) (line_of s i from a m) i);
            }
      ]
  pays _ _ _ (sends {from} {o} {r} {i} {j} {l} a y z hb e f d u) =
      let m : Chained = carried_for from o r in
      let c = is_carried from (line_for o) r in
      let first = pays _ _ _ d in
      let next = pays _ _ _ u in
      λ n asks carries le st.
      let i1 : Journal = with_line (line_of s i from a m) i in
      let st2 : Stays p s asks (with_line (line_of s i from a m) i) = stays_lined p s asks (line_of s i from a m) i st in
      let is = carries.asking a here m c in
      let ready = carries.ready a here m c in
      let by = carries.within a here m c in
      let st3 : Stays p s (is_update m.request.body) (with_line (line_of s i from a m) i) = stays_as p s asks (is_update m.request.body) (with_line (line_of s i from a m) i) (sym is) st2 in
      elim (first ready st3) [
        | inl x ↦
            let same = (next ready x.1.stays).0 x.0 in
            let at_j = after_then p s asks i (with_line (line_of s i from a m) i) j 1 (serving_cost p a m) (1 + n) (after_line p s asks (line_of s i from a m) i st) (after_as p s (is_update m.request.body) asks (with_line (line_of s i from a m) i) j (serving_cost p a m) is x.1) (omega arith) in
            subst (λ (v : Journal). After p s asks i v (1 + n)) (sym same) at_j
        | inr x ↦
            let st4 : Stays p s (is_update m.request.body) j = stays_at p s (is_update m.request.body) (with_line (line_of s i from a m) i) j x.1 st3 in
            let more = (next ready st4).1 x.0 in
            let more2 = subst (λ (v : Journal). After p s (is_update m.request.body) v l (serving_cost p a m)) x.1 more in
            after_then p s asks i (with_line (line_of s i from a m) i) l 1 (serving_cost p a m) (1 + n) (after_line p s asks (line_of s i from a m) i st) (after_as p s (is_update m.request.body) asks (with_line (line_of s i from a m) i) l (serving_cost p a m) is more2) (omega arith)
      ]
  pays _ _ _ (final {from} {k} {j} y e) = λ ready st. (λ g. refl, λ left. after_none p s (asks_of k) j (cost_of p k) st)
  pays _ _ _ (referral {from} {k} {i} {j} r h e d) =
      let next = pays _ _ _ d in
      λ ready st. (λ g. absurd (false_true g), λ left. next (cost_of p k) (asks_of k) (goes_on from k r ready left.1 left.0) st)
  pays _ _ _ (wide_referral {from} {k} {i} {j} r y e d) =
      let next = pays _ _ _ d in
      λ ready st. (λ g. absurd (false_true g), λ left. next (cost_of p k) (asks_of k) (goes_on from k r ready left.1 left.0) st)
  pays _ _ _ (unexplored {from} {k} {i} {j} a w e d) =
      let next = pays _ _ _ d in
      λ ready st. (
        λ g. absurd (false_true (sym e ∙ g)),
        λ left.
            let x = parts p s from k set ready left.2 left.0 in
            after_more p s (asks_of k) i j (total x.0 (to_follow a)) (cost_of p k)
            (next x.0 (asks_of k) (λ r ir. x.2 r (subst (λ (rs : List Reference). In r rs) left.1 ir)) st)
            (subst (λ (rs : List Reference). total x.0 rs ≤ cost_of p k) (sym left.1) x.1),
      )
  pays _ _ _ (none_yet {from} {o} {r} {j}) = λ n asks carries le st. after_none p s asks j 0 st
  pays _ _ _ (in_vain_too {from} {o} {r} {i} {j} {l} {before} a d u) =
      let first = pays _ _ _ d in
      let next = pays _ _ _ u in
      λ n asks carries le st.
      let up = first n asks (carries_of p s from o r before (before ++ a ∷ []) n asks (in_before (before ++ a ∷ []) before a [] refl) carries) le st in
      let last = next n asks (carries_of p s from o r (a ∷ []) (before ++ a ∷ []) n asks (in_middle (before ++ a ∷ []) before a [] refl) carries) le up.stays in
      after_then p s asks i j l (length before) 1 (length (before ++ a ∷ [])) up last (omega (arith, length_last before a))
  pays _ _ _ (heard {from} {o} {r} {i} {j} {l} b c a y e d u) =
      let first = pays _ _ _ d in
      let next = pays _ _ _ u in
      λ n asks pay st.
      let up = first pay.each asks (carries_of p s from o r b r.agents pay.each asks (in_before r.agents b a c e) pay.carries) pay.small st in
      let last = next pay.each asks (carries_of p s from o r (a ∷ []) r.agents pay.each asks (in_middle r.agents b a c e) pay.carries) pay.small up.stays in
      after_then p s asks i j l (length b) (1 + pay.each) n up last (taken_within r.agents b a c pay.each n e pay.few)
  pays _ _ _ (unheard {from} {o} {r} {i} {j} d) =
      let first = pays _ _ _ d in
      λ n asks pay st. after_more p s asks i j (length r.agents) n (first pay.each asks pay.carries pay.small st) (omega (arith, pay.few))
  pays _ _ _ (none_asked {from} {o} {r} {j}) = λ n asks carries le st. after_none p s asks j 0 st
  pays _ _ _ (unable_too {from} {o} {r} {i} {j} {l} {before} {noted} a y e d u) =
      let first = pays _ _ _ d in
      let next = pays _ _ _ u in
      let once = unables able s most _ _ _ u e in
      λ n asks carries le st.
      let up = first n asks (carries_of p s from o r before (before ++ a ∷ []) n asks (in_before (before ++ a ∷ []) before a [] refl) carries) le st in
      let last = next n asks (carries_of p s from o r (a ∷ []) (before ++ a ∷ []) n asks (in_middle (before ++ a ∷ []) before a [] refl) carries) le up.stays in
      let one = subst (λ (v : Journal). Costs s (whole_cost p) j v 1) (sym once.1) (costs_line s (whole_cost p) once.0 j) in
      after_then p s asks i j l (length before) 1 (length (before ++ a ∷ [])) up (record { stays = last.stays; costs = one }) (omega (arith, length_last before a))
  pays _ _ _ (silent_too {from} {o} {r} {i} {j} {l} {before} {noted} a d u) =
      let first = pays _ _ _ d in
      let next = pays _ _ _ u in
      λ n asks carries le st.
      let up = first n asks (carries_of p s from o r before (before ++ a ∷ []) n asks (in_before (before ++ a ∷ []) before a [] refl) carries) le st in
      let last = next n asks (carries_of p s from o r (a ∷ []) (before ++ a ∷ []) n asks (in_middle (before ++ a ∷ []) before a [] refl) carries) le up.stays in
      after_then p s asks i j l (length before) 1 (length (before ++ a ∷ [])) up last (omega (arith, length_last before a))
  pays _ _ _ (answered {from} {o} {r} {i} {j} {l} b c noted a y e f d u) =
      let first = pays _ _ _ d in
      let next = pays _ _ _ u in
      λ n asks pay st.
      let up = first pay.each asks (carries_of p s from o r b r.agents pay.each asks (in_before r.agents b a c e) pay.carries) pay.small st in
      let last = next pay.each asks (carries_of p s from o r (a ∷ []) r.agents pay.each asks (in_middle r.agents b a c e) pay.carries) pay.small up.stays in
      after_then p s asks i j l (length b) (1 + pay.each) n up last (taken_within r.agents b a c pay.each n e pay.few)
  pays _ _ _ (nobody_has {from} {o} {r} {i} {j} d) =
      let first = pays _ _ _ d in
      λ n asks pay st. after_more p s asks i j (length r.agents) n (first pay.each asks pay.carries pay.small st) (omega (arith, pay.few))
  pays _ _ _ (some_silent {from} {o} {r} {i} {j} noted e d) =
      let first = pays _ _ _ d in
      λ n asks pay st. after_more p s asks i j (length r.agents) n (first pay.each asks pay.carries pay.small st) (omega (arith, pay.few))
  pays _ _ _ (no_part {from} {o} {a} {j}) = λ cost asks pay st. after_none p s asks j 0 st
  pays _ _ _ (part_unheard {from} {o} {i} {j} {l} {rs} {a} {b} r d u) = (let first = pays _ _ _ d in let next = pays _ _ _ u in λ cost asks pay st. gathered from o r i j l rs first next cost asks pay st)
  pays _ _ _ (part_unavailable {from} {o} {i} {j} {l} {rs} {a} {b} r v d u) = (let first = pays _ _ _ d in let next = pays _ _ _ u in λ cost asks pay st. gathered from o r i j l rs first next cost asks pay st)
  pays _ _ _ (part_answered {from} {o} {i} {j} {l} {rs} {a} {b} r c d u) = (let first = pays _ _ _ d in let next = pays _ _ _ u in λ cost asks pay st. gathered from o r i j l rs first next cost asks pay st)
  pays _ _ _ (part_breaks {from} {o} {i} {j} {l} {a} {b} before after r x e d u) =
      let first = pays _ _ _ d in
      let next = pays _ _ _ u in
      λ cost asks pay st.
      let up = first cost asks (λ q iq. pay q (in_left q before (r ∷ after) iq)) st in
      let last = next (cost r) asks (pay r (in_right r before (r ∷ after) here)) up.stays in
      after_then p s asks i j l (total cost before) (cost r) (total cost (before ++ r ∷ after)) up last (total_within cost before r after)

pub serving_pays : ResolutionPays → PartsPay → ProbesPay → JudgeIsMaster → RepliesAble → ServingPays
serving_pays resolution parts probes judge able p s most x i j set d = pays resolution parts probes judge able p s most set x i j d
