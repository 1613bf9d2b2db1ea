-- What each thing that is done was done by, from its outcome: a loop by its last step, a message by its fate, a reply by
-- what it leaves, an update by what its agent makes of it.
use Rattle.std.proofs.Common.{◌≡◌, ℕ, Bool, true, false, ◌||◌, ◌==◌, if◌then◌else◌, ◌⊎◌, inl, inr, List, [], ◌∷◌, ◌++◌, refl, sym, ap, subst, ◌∙◌, Option, Some, None, Ok, Err}
use Rattle.std.proofs.lemmas.Bool.Decides.{Decides-eqb}
use Rattle.x5_model.specs.Words.{is_empty}
use Rattle.x5_model.specs.Entries.{Named}
use Rattle.x5_model.specs.References.{Reference}
use Rattle.x5_model.specs.Answers.{Answer, Changed, DirError, NoSuchObject, AttributeProblem, UpdateProblem, ServiceProblem, Reply, Answered, Failed, Referred}
use Rattle.x5_model.specs.Problems.{entry_already_exists, unavailable, unable_to_proceed}
use Rattle.x5_model_tree.specs.Apply.{UpdatedEntries}
use Rattle.x5_model_run.specs.Network.{Fate, Lost, NoReply, Sent}
use Rattle.x5_model_run.specs.Journal.{Journal, is_wide}
use Rattle.x5_model_run.specs.Needs.{due_probes}
use Rattle.x5_model_run.specs.Chain.{Scene}
use Rattle.x5_model_serve.specs.Answering.{merged, with_unexplored, only_unexplored, to_follow, passed_by, is_service, in_vain, of_these, is_unavailable, above_next}
use Rattle.x5_model_serve.specs.Serving.{Hand, hand, is_held_back, held_back, Heard, Unheard, Hears, Gathered, Whole, Broken, Does, Serves, Follows, Sends, Tries, Takes, Spreads, Casts, Gathers, Probes, Updates, carried_for, next_line, with_line, with_accepted, is_spent, holds_now, gathered_reply, limit_reply, heard_or, judged, is_final, not_done, does, probes_all, misses, taken, breaks, no_probe, clear, unsure, silent, holds_back, spent, lost, dropped, sends, final, referral, wide_referral, unexplored, none_yet, in_vain_too, heard, unheard, none_asked, unable_too, silent_too, answered, nobody_has, some_silent, no_part, part_unheard, part_unavailable, part_answered, part_breaks}
use Rattle.x5_model_determined.proofs.Loops.{Stop, LoopView}

-- ---- what is heard, and whether a loop goes on

abbrev pub is_clear : Heard → Bool
is_clear Unheard = false
is_clear (Hears y) = is_service unable_to_proceed y

abbrev pub noting : Heard → ℕ → List ℕ → List ℕ
noting h a old = if is_clear h then old else (old ++ a ∷ [])

abbrev pub none_noted : Heard → ℕ → List ℕ → List ℕ
none_noted h a old = []

abbrev pub passes_tried : Heard → Bool
passes_tried Unheard = true
passes_tried (Hears y) = false

abbrev pub passes_cast : Heard → Bool
passes_cast Unheard = true
passes_cast (Hears y) = is_service unable_to_proceed y

abbrev pub passes_probe : Heard → Bool
passes_probe Unheard = true
passes_probe (Hears y) = is_service unable_to_proceed y || is_service unavailable y

abbrev pub passes_part : Heard → Bool
passes_part Unheard = true
passes_part (Hears (Answered c)) = true
passes_part (Hears (Failed x)) = is_service unavailable (Failed x)
passes_part (Hears (Referred r)) = false

abbrev pub gathering : Heard → Reference → Answer → Answer
gathering Unheard r b = with_unexplored (in_vain r ∷ []) b
gathering (Hears (Answered c)) r b = merged b c
gathering (Hears (Failed (NoSuchObject n))) r b = b
gathering (Hears (Failed (AttributeProblem n t))) r b = b
gathering (Hears (Failed (UpdateProblem n))) r b = b
gathering (Hears (Failed (ServiceProblem n None t))) r b = b
gathering (Hears (Failed (ServiceProblem n (Some u) t))) r b = with_unexplored (in_vain u ∷ []) b
gathering (Hears (Referred q)) r b = b

-- who is unavailable isn't unable
pub apart_problems : (y : Reply) → is_service unavailable y ≡ true → is_service unable_to_proceed y ≡ false
apart_problems (Answered a) e = cc
apart_problems (Referred r) e = cc
apart_problems (Failed (NoSuchObject n)) e = cc
apart_problems (Failed (AttributeProblem n t)) e = cc
apart_problems (Failed (UpdateProblem n)) e = cc
apart_problems (Failed (ServiceProblem n r t)) e =
    let same : n ≡ unavailable = (Decides-eqb n unavailable).0 e in
    subst (λ (k : ℕ). (k == unable_to_proceed) ≡ false) (sym same) refl

module _ (s : Scene) (most : ℕ) where
  -- ---- the loops

  abbrev pub SendsOne : Option ℕ → Hand → Reference → ℕ → Heard → Journal → Journal → Type 0
  SendsOne from o r a h j l = Does s most (Sends from o r a h) j l

  abbrev pub TakesOne : Option ℕ → Hand → Reference → Heard → Journal → Journal → Type 0
  TakesOne from o r h j l = Does s most (Takes from o r h) j l

  abbrev pub TriesLoop : Option ℕ → Hand → Reference → Journal → List ℕ → List ℕ → Journal → Type 0
  TriesLoop from o r i agents noted l = (noted ≡ []) × Does s most (Tries from o r agents) i l

  abbrev pub SpreadsLoop : Option ℕ → Hand → Reference → Journal → List ℕ → List ℕ → Journal → Type 0
  SpreadsLoop from o r i agents noted l = Does s most (Spreads from o r agents noted) i l

  abbrev pub ProbesLoop : Hand → Reference → Journal → List ℕ → List ℕ → Journal → Type 0
  ProbesLoop k r i agents noted l = Does s most (Probes k r agents noted) i l

  abbrev pub GathersLoop : Option ℕ → Hand → Answer → Journal → List Reference → Answer → Journal → Type 0
  GathersLoop from o a i rs b l = Does s most (Gathers from o rs a (Whole b)) i l

  tries_by : (from : Option ℕ) (o : Hand) (r : Reference) (agents : List ℕ) (i l : Journal) → Does s most (Tries from o r agents) i l
      → ((agents ≡ []) × (l ≡ i)) ⊎ ((before : List ℕ) × (a : ℕ) × (m : Journal) × (agents ≡ before ++ a ∷ [])
      × Does s most (Tries from o r before) i m × Does s most (Sends from o r a Unheard) m l)
  tries_by _ _ _ _ _ _ none_yet = inl (refl, refl)
  tries_by _ _ _ _ _ _ (in_vain_too {from} {o} {r} {i} {j} {l} {before} a d u) = inr (before, a, j, refl, d, u)

  pub tries_view : (from : Option ℕ) (o : Hand) (r : Reference) (i : Journal) (agents noted : List ℕ) (l : Journal)
      → TriesLoop from o r i agents noted l
      → LoopView ℕ (List ℕ) [] none_noted passes_tried i (TriesLoop from o r i) (SendsOne from o r) agents noted l
  tries_view from o r i agents noted l d = elim (tries_by from o r agents i l d.1) [
    | inl x ↦ inl (x.0, d.0, x.1)
    | inr w ↦ inr (record {
      before = w.0;
      latest = w.1;
      old = [];
      what = Unheard;
      mid = w.2;
      items = w.3;
      becomes = d.0;
      passed = refl;
      loop = (refl, w.4);
      sent = w.5;
    })
  ]

  pub spreads_view : (from : Option ℕ) (o : Hand) (r : Reference) (i : Journal) (agents noted : List ℕ) (l : Journal)
      → SpreadsLoop from o r i agents noted l
      → LoopView ℕ (List ℕ) [] noting passes_cast i (SpreadsLoop from o r i) (SendsOne from o r) agents noted l
  spreads_view _ _ _ _ _ _ _ none_asked = inl (refl, refl, refl)
  spreads_view _ _ _ _ _ _ _ (unable_too {from} {o} {r} {i} {j} {l} {before} {noted} a y e d u) = inr (record {
    before = before;
    latest = a;
    old = noted;
    what = Hears y;
    mid = j;
    items = refl;
    becomes = ap (λ (b : Bool). if b then noted else (noted ++ a ∷ [])) (sym e);
    passed = e;
    loop = d;
    sent = u;
  })
  spreads_view _ _ _ _ _ _ _ (silent_too {from} {o} {r} {i} {j} {l} {before} {noted} a d u) = inr (record {
    before = before;
    latest = a;
    old = noted;
    what = Unheard;
    mid = j;
    items = refl;
    becomes = refl;
    passed = refl;
    loop = d;
    sent = u;
  })

  pub probes_view : (k : Hand) (r : Reference) (i : Journal) (agents noted : List ℕ) (l : Journal) → ProbesLoop k r i agents noted l
      → LoopView ℕ (List ℕ) [] noting passes_probe i (ProbesLoop k r i) (SendsOne (Some k.receiver) k r) agents noted l
  probes_view _ _ _ _ _ _ no_probe = inl (refl, refl, refl)
  probes_view _ _ _ _ _ _ (clear {k} {r} {i} {j} {l} {before} {noted} a y e d u) = inr (record {
    before = before;
    latest = a;
    old = noted;
    what = Hears y;
    mid = j;
    items = refl;
    becomes = ap (λ (b : Bool). if b then noted else (noted ++ a ∷ [])) (sym e);
    passed = ap
        (λ (b : Bool). b || is_service unavailable y) e;
    loop = d;
    sent = u;
  })
  probes_view _ _ _ _ _ _ (unsure {k} {r} {i} {j} {l} {before} {noted} a y e d u) = inr (record {
    before = before;
    latest = a;
    old = noted;
    what = Hears y;
    mid = j;
    items = refl;
    becomes = ap (λ (b : Bool). if b then noted else (noted ++ a ∷ [])) (sym (apart_problems y e));
    passed = ap (λ (b : Bool). b || is_service unavailable y) (apart_problems y e) ∙ e;
    loop = d;
    sent = u;
  })
  probes_view _ _ _ _ _ _ (silent {k} {r} {i} {j} {l} {before} {noted} a d u) = inr (record {
    before = before;
    latest = a;
    old = noted;
    what = Unheard;
    mid = j;
    items = refl;
    becomes = refl;
    passed = refl;
    loop = d;
    sent = u;
  })

  pub gathers_view : (from : Option ℕ) (o : Hand) (a : Answer) (i : Journal) (rs : List Reference) (b : Answer) (l : Journal)
      → GathersLoop from o a i rs b l
      → LoopView Reference Answer a gathering passes_part i (GathersLoop from o a i) (TakesOne from o) rs b l
  gathers_view _ _ _ _ _ _ _ no_part = inl (refl, refl, refl)
  gathers_view _ _ _ _ _ _ _ (part_unheard {from} {o} {i} {j} {l} {rs} {a} {b} r d u) = inr (record {
    before = rs;
    latest = r;
    old = b;
    what = Unheard;
    mid = j;
    items = refl;
    becomes = refl;
    passed = refl;
    loop = d;
    sent = u;
  })
  gathers_view _ _ _ _ _ _ _ (part_unavailable {from} {o} {i} {j} {l} {rs} {a} {b} r v d u) = inr (record {
    before = rs;
    latest = r;
    old = b;
    what = Hears
        (is_unavailable v);
    mid = j;
    items = refl;
    becomes = refl;
    passed = refl;
    loop = d;
    sent = u;
  })
  gathers_view _ _ _ _ _ _ _ (part_answered {from} {o} {i} {j} {l} {rs} {a} {b} r c d u) = inr (record {
    before = rs;
    latest = r;
    old = b;
    what = Hears (Answered c);
    mid = j;
    items = refl;
    becomes = refl;
    passed = refl;
    loop = d;
    sent = u;
  })

  -- ---- where a loop ends

  abbrev pub StopsTrying : Option ℕ → Hand → Reference → Journal → Journal → Type 0
  StopsTrying from o r i l = Stop ℕ (List ℕ) passes_tried (TriesLoop from o r i) (SendsOne from o r) r.agents l

  abbrev pub StopsCasting : Option ℕ → Hand → Reference → Journal → Journal → Type 0
  StopsCasting from o r i l = Stop ℕ (List ℕ) passes_cast (SpreadsLoop from o r i) (SendsOne from o r) r.agents l

  abbrev pub StopsProbing : Hand → Reference → Journal → Journal → Type 0
  StopsProbing k r i l = Stop ℕ (List ℕ) passes_probe (ProbesLoop k r i) (SendsOne (Some k.receiver) k r) r.agents l

  abbrev pub StopsGathering : Option ℕ → Hand → List Reference → Answer → Journal → Journal → Type 0
  StopsGathering from o rs a i l = Stop Reference Answer passes_part (GathersLoop from o a i) (TakesOne from o) rs l

  abbrev pub Took : Option ℕ → Hand → Reference → Heard → Journal → Journal → Type 0
  Took from o r g i l =
      ((g ≡ Unheard) × TriesLoop from o r i r.agents [] l) ⊎ ((st : StopsTrying from o r i l) × (g ≡ st.what))

  pub took : (from : Option ℕ) (o : Hand) (r : Reference) (g : Heard) (i l : Journal) → Does s most (Takes from o r g) i l
      → Took from o r g i l
  took _ _ _ _ _ _ (heard {from} {o} {r} {i} {j} {l} before after a y e d u) = inr (
    record {
      before = before;
      latest = a;
      after = after;
      old = [];
      what = Hears y;
      mid = j;
      items = e;
      stops = refl;
      loop = (refl, d);
      sent = u;
    },
    refl,
  )
  took _ _ _ _ _ _ (unheard d) = inl (refl, (refl, d))

  abbrev pub cast_reply : Reference → List ℕ → Reply
  cast_reply r [] = Failed (NoSuchObject (above_next r))
  cast_reply r (x ∷ xs) = is_unavailable (of_these (x ∷ xs) r)

  pub noted_reply : (r : Reference) (noted : List ℕ) → is_empty noted ≡ false → cast_reply r noted ≡ is_unavailable (of_these noted r)
  noted_reply r [] e = cc
  noted_reply r (x ∷ xs) e = refl

  abbrev pub Cast : Option ℕ → Hand → Reference → Reply → Journal → Journal → Type 0
  Cast from o r y i l =
      ((noted : List ℕ) × SpreadsLoop from o r i r.agents noted l × (y ≡ cast_reply r noted))
      ⊎ ((st : StopsCasting from o r i l) × (Hears y ≡ st.what))

  pub cast : (from : Option ℕ) (o : Hand) (r : Reference) (y : Reply) (i l : Journal) → Does s most (Casts from o r y) i l
      → Cast from o r y i l
  cast _ _ _ _ _ _ (answered {from} {o} {r} {i} {j} {l} before after noted a y e f d u) = inr (
    record {
      before = before;
      latest = a;
      after = after;
      old = noted;
      what = Hears y;
      mid = j;
      items = e;
      stops = f;
      loop = d;
      sent = u;
    },
    refl,
  )
  cast _ _ _ _ _ _ (nobody_has d) = inl ([], d, refl)
  cast _ _ _ _ _ _ (some_silent {from} {o} {r} {i} {j} noted e d) = inl (noted, d, sym (noted_reply r noted e))

  abbrev pub probed_reply : Reference → List ℕ → Reply
  probed_reply r [] = Answered Changed
  probed_reply r (x ∷ xs) = is_unavailable (of_these (x ∷ xs) r)

  abbrev pub probed_journal : Hand → List ℕ → Journal → Journal
  probed_journal k [] m = with_accepted k.receiver m
  probed_journal k (x ∷ xs) m = m

  pub missed_reply : (r : Reference) (noted : List ℕ) (a : ℕ)
      → probed_reply r (noted ++ a ∷ []) ≡ is_unavailable (of_these (noted ++ a ∷ []) r)
  missed_reply r [] a = refl
  missed_reply r (x ∷ xs) a = refl

  pub missed_journal : (k : Hand) (noted : List ℕ) (a : ℕ) (m : Journal) → probed_journal k (noted ++ a ∷ []) m ≡ m
  missed_journal k [] a m = refl
  missed_journal k (x ∷ xs) a m = refl

  -- what is made of what stopped the probes
  abbrev pub stopped_reply : Heard → Reply
  stopped_reply Unheard = Answered Changed
  stopped_reply (Hears (Answered found)) = Failed (UpdateProblem entry_already_exists)
  stopped_reply (Hears (Failed x)) = Failed x
  stopped_reply (Hears (Referred r)) = Referred r

  abbrev pub Probed : Hand → Reference → Reply → Journal → Journal → Type 0
  Probed k r y i l =
      ((noted : List ℕ) × (m : Journal) × ProbesLoop k r i r.agents noted m × (y ≡ probed_reply r noted) × (l ≡ probed_journal k noted m))
      ⊎ ((st : StopsProbing k r i l) × (y ≡ stopped_reply st.what))

  abbrev pub UpdatesAs : Hand → Reply → Journal → Journal → UpdatedEntries → List Reference → Type 0
  UpdatesAs k y i l (Err x) due = (y ≡ Failed x) × (l ≡ i)
  UpdatesAs k y i l (Ok mine) [] = (y ≡ Answered Changed) × (l ≡ with_accepted k.receiver i)
  UpdatesAs k y i l (Ok mine) (r ∷ []) = Probed k r y i l
  UpdatesAs k y i l (Ok mine) (r ∷ q ∷ rs) = ⊥

  -- at what its agent makes of it, and the probes that are due
  abbrev pub UpdatesAt : Hand → Reply → Journal → Journal → Type 0
  UpdatesAt k y i l = UpdatesAs k y i l (judged s i k) (due_probes (holds_now s i k) k.message)

  probing : (k : Hand) (y : Reply) (i l : Journal) (made : UpdatedEntries) (due : List Reference) (mine : List Named) (r : Reference)
      → made ≡ Ok mine → due ≡ r ∷ [] → Probed k r y i l → UpdatesAs k y i l made due
  probing k y i l made due mine r e f p =
      subst (λ (z : UpdatedEntries). UpdatesAs k y i l z due) (sym e) (subst (λ (z : List Reference). UpdatesAs k y i l (Ok mine) z) (sym f) p)

  pub updates_at : (k : Hand) (y : Reply) (i l : Journal) → Does s most (Updates k y) i l → UpdatesAt k y i l
  updates_at _ _ _ _ (not_done {k} {j} x e) =
      subst (λ (z : UpdatedEntries). UpdatesAs k (Failed x) j j z (due_probes (holds_now s j k) k.message)) (sym e) (refl, refl)
  updates_at _ _ _ _ (does {k} {j} mine e f) =
      subst (λ (z : UpdatedEntries). UpdatesAs k (Answered Changed) j (with_accepted k.receiver j) z (due_probes (holds_now s j k) k.message))
      (sym e)
      (subst (λ (z : List Reference). UpdatesAs k (Answered Changed) j (with_accepted k.receiver j) (Ok mine) z) (sym f) (refl, refl))
  updates_at _ _ _ _ (probes_all {k} {i} {j} mine r e f d) =
      probing k (Answered Changed) i (with_accepted k.receiver j) (judged s i k) (due_probes (holds_now s i k) k.message) mine r e f
      (inl ([], j, d, refl, refl))
  updates_at _ _ _ _ (misses {k} {i} {j} mine r a noted e f d) =
      probing k (is_unavailable (of_these (noted ++ a ∷ []) r)) i j (judged s i k) (due_probes (holds_now s i k) k.message) mine r e f
      (inl (noted ++ a ∷ [], j, d, sym (missed_reply r noted a), sym (missed_journal k noted a j)))
  updates_at _ _ _ _ (taken {k} {i} {j} {l} mine r a before after noted found e f g d u) =
      probing k (Failed (UpdateProblem entry_already_exists)) i l (judged s i k) (due_probes (holds_now s i k) k.message) mine r e f
      (inr (
        record {
          before = before;
          latest = a;
          after = after;
          old = noted;
          what = Hears
              (Answered found);
          mid = j;
          items = g;
          stops = refl;
          loop = d;
          sent = u;
        },
        refl,
      ))
  updates_at _ _ _ _ (breaks {k} {i} {j} {l} mine r a before after noted x e f g able there_too d u) =
      probing k (Failed x) i l (judged s i k) (due_probes (holds_now s i k) k.message) mine r e f (inr (
        record {
          before = before;
          latest = a;
          after = after;
          old = noted;
          what = Hears (Failed x);
          mid = j;
          items = g;
          stops = ap (λ (b : Bool). b || is_service unavailable (Failed x)) able ∙ there_too;
          loop = d;
          sent = u;
        },
        refl,
      ))

  abbrev pub GatheredBy : Option ℕ → Hand → List Reference → Answer → Gathered → Journal → Journal → Type 0
  GatheredBy from o rs a whole i l =
      ((b : Answer) × GathersLoop from o a i rs b l × (whole ≡ Whole b))
      ⊎ ((st : StopsGathering from o rs a i l) × (x : DirError) × (st.what ≡ Hears (Failed x)) × (whole ≡ Broken (Failed x)))

  pub gathered_by : (from : Option ℕ) (o : Hand) (rs : List Reference) (a : Answer) (whole : Gathered) (i l : Journal)
      → Does s most (Gathers from o rs a whole) i l
      → GatheredBy from o rs a whole i l
  gathered_by _ _ _ _ _ _ _ (no_part {from} {o} {a} {j}) = inl (a, no_part, refl)
  gathered_by _ _ _ _ _ _ _ (part_unheard {b = b} r d u) = inl (with_unexplored (in_vain r ∷ []) b, part_unheard r d u, refl)
  gathered_by _ _ _ _ _ _ _ (part_unavailable {b = b} r v d u) = inl (with_unexplored (in_vain v ∷ []) b, part_unavailable r v d u, refl)
  gathered_by _ _ _ _ _ _ _ (part_answered {b = b} r c d u) = inl (merged b c, part_answered r c d u, refl)
  gathered_by _ _ _ _ _ _ _ (part_breaks {from} {o} {i} {j} {l} {a} {b} before after r x e d u) = inr (
    record {
      before = before;
      latest = r;
      after = after;
      old = b;
      what = Hears (Failed x);
      mid = j;
      items = refl;
      stops = e;
      loop = d;
      sent = u;
    },
    x,
    refl,
    refl,
  )

  -- ---- a message, and a reply

  abbrev pub SentAs : Option ℕ → Hand → Reference → ℕ → Heard → Journal → Journal → Bool → Fate → Type 0
  SentAs from o r a g i l true fate = (g ≡ Hears limit_reply) × (l ≡ i)
  SentAs from o r a g i l false Lost = (g ≡ Unheard) × (l ≡ with_line (next_line s i from o r a) i)
  SentAs from o r a g i l false NoReply =
      (reply : Reply) × Does s most (Serves (hand a (carried_for from o r)) reply) (with_line (next_line s i from o r a) i) l
      × (g ≡ Unheard)
  SentAs from o r a g i l false Sent =
      (reply : Reply) × (last : Reply) × (m : Journal) × Does s most (Serves (hand a (carried_for from o r)) reply) (with_line
      (next_line s i from o r a) i) m
      × Does s most (Follows from (hand a (carried_for from o r)) reply last) m l × (g ≡ Hears last)

  abbrev pub SentBy : Option ℕ → Hand → Reference → ℕ → Heard → Journal → Journal → Bool → Type 0
  SentBy from o r a g i l true = (g ≡ Hears (held_back (hand a (carried_for from o r)))) × (l ≡ i)
  SentBy from o r a g i l false = SentAs from o r a g i l (is_spent most i) (next_line s i from o r a).fate

  abbrev pub SentAt : Option ℕ → Hand → Reference → ℕ → Heard → Journal → Journal → Type 0
  SentAt from o r a g i l = SentBy from o r a g i l (is_held_back from (hand a (carried_for from o r)))

  pub at_fate : (from : Option ℕ) (o : Hand) (r : Reference) (a : ℕ) (g : Heard) (i l : Journal) (b c : Bool) (f h : Fate)
      → b ≡ c → f ≡ h → SentAs from o r a g i l b f → SentAs from o r a g i l c h
  at_fate from o r a g i l b c f h e q w =
      subst (λ (z : Fate). SentAs from o r a g i l c z) q (subst (λ (z : Bool). SentAs from o r a g i l z f) e w)

  pub sent_at : (from : Option ℕ) (o : Hand) (r : Reference) (a : ℕ) (g : Heard) (i l : Journal) → Does s most (Sends from o r a g) i l
      → SentAt from o r a g i l
  sent_at _ _ _ _ _ _ _ (holds_back {from} {o} {r} {j} a e) =
      subst (λ (z : Bool). SentBy from o r a (Hears (held_back (hand a (carried_for from o r)))) j j z) (sym e) (refl, refl)
  sent_at _ _ _ _ _ _ _ (spent {from} {o} {r} {j} a hb e) =
      subst (λ (z : Bool). SentBy from o r a (Hears limit_reply) j j z) (sym hb)
      (subst (λ (z : Bool). SentAs from o r a (Hears limit_reply) j j z (next_line s j from o r a).fate) (sym e) (refl, refl))
  sent_at _ _ _ _ _ _ _ (lost {from} {o} {r} {j} a hb e f) =
      subst (λ (z : Bool). SentBy from o r a Unheard j (with_line (next_line s j from o r a) j) z) (sym hb)
      (at_fate from o r a Unheard j (with_line (next_line s j from o r a) j) false (is_spent most j) Lost (next_line s j from o r a).fate
      (sym e) (sym f) (refl, refl))
  sent_at _ _ _ _ _ _ _ (dropped {from} {o} {r} {i} {j} a y hb e f d) =
      subst (λ (z : Bool). SentBy from o r a Unheard i j z) (sym hb)
      (at_fate from o r a Unheard i j false (is_spent most i) NoReply (next_line s i from o r a).fate (sym e) (sym f) (y, d, refl))
  sent_at _ _ _ _ _ _ _ (sends {from} {o} {r} {i} {j} {l} a y z hb e f d u) =
      subst (λ (w : Bool). SentBy from o r a (Hears z) i l w) (sym hb)
      (at_fate from o r a (Hears z) i l false (is_spent most i) Sent (next_line s i from o r a).fate (sym e) (sym f) (y, z, j, d, u, refl))

  abbrev pub ReferredAs : Option ℕ → Hand → Reference → Reply → Journal → Journal → Bool → Type 0
  ReferredAs from k r y i l false = (h : Heard) × Does s most (Takes from k r h) i l × (y ≡ heard_or (is_unavailable (in_vain r)) h)
  ReferredAs from k r y i l true = Does s most (Casts from k r y) i l

  abbrev pub AnsweredAs : Option ℕ → Hand → Answer → Reply → Journal → Journal → Bool → Type 0
  AnsweredAs from k a y i l true = (y ≡ Answered a) × (l ≡ i)
  AnsweredAs from k a y i l false =
      (whole : Gathered) × Does s most (Gathers from k (to_follow a) (only_unexplored (passed_by a) a) whole) i l
      × (y ≡ gathered_reply k whole)

  abbrev pub FollowedAs : Option ℕ → Hand → Reply → Reply → Journal → Journal → Type 0
  FollowedAs from k (Answered a) y i l = AnsweredAs from k a y i l (is_final (Answered a))
  FollowedAs from k (Failed x) y i l = (y ≡ Failed x) × (l ≡ i)
  FollowedAs from k (Referred r) y i l = ReferredAs from k r y i l (is_wide r.kind)

  pub followed_as : (from : Option ℕ) (k : Hand) (reply y : Reply) (i l : Journal) → Does s most (Follows from k reply y) i l
      → FollowedAs from k reply y i l
  followed_as _ _ _ _ _ _ (final {from} {k} {j} reply e) = by reply e
    where
      by : (z : Reply) → is_final z ≡ true → FollowedAs from k z z j j
      by (Answered a) f = subst (λ (b : Bool). AnsweredAs from k a (Answered a) j j b) (sym f) (refl, refl)
      by (Failed x) f = (refl, refl)
      by (Referred r) f = cc
  followed_as _ _ _ _ _ _ (referral {from} {k} {i} {j} r h e d) =
      subst (λ (b : Bool). ReferredAs from k r (heard_or (is_unavailable (in_vain r)) h) i j b) (sym e) (h, d, refl)
  followed_as _ _ _ _ _ _ (wide_referral {from} {k} {i} {j} r y e d) = subst (λ (b : Bool). ReferredAs from k r y i j b) (sym e) d
  followed_as _ _ _ _ _ _ (unexplored {from} {k} {i} {j} a w e d) =
      subst (λ (b : Bool). AnsweredAs from k a (gathered_reply k w) i j b) (sym e) (w, d, refl)
