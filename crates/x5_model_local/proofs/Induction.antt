-- Whatever is done, its reply rests on agents that were heard: by one induction over all that is done.
use Rattle.std.proofs.Common.{◌≡◌, ℕ, ◌≤◌, nat_le, ◌==◌, Bool, true, false, inl, inr, List, [], ◌∷◌, ◌++◌, length, refl, sym, ap, subst, ◌∙◌, ◌⊎◌, Some, None, Option, arith}
use Rattle.std.proofs.lemmas.Bool.Decides.{leb_tells}
use Rattle.x5_model.specs.Words.{has, is_empty}
use Rattle.x5_model.specs.Members.{In, here, there}
use Rattle.x5_model.specs.References.{Reference}
use Rattle.x5_model.specs.Answers.{Answer, EntryFound, Matched, Listed, Found, Changed, UpdateProblem, Reply, Answered, Failed}
use Rattle.x5_model.specs.Problems.{entry_already_exists, unavailable, unable_to_proceed}
use Rattle.x5_model.proofs.Decide.{nat_same_decides}
use Rattle.x5_model.proofs.Lists.{both_true, or_left, or_right, in_first, in_left, in_right, in_either}
use Rattle.x5_model_tree.specs.Ask.{is_update, unexplored_of}
use Rattle.x5_model_run.specs.Network.{is_unheard}
use Rattle.x5_model_run.specs.Journal.{Line, Journal}
use Rattle.x5_model_run.specs.Needs.{due_probes}
use Rattle.x5_model_run.specs.Chain.{Scene}
use Rattle.x5_model_serve.specs.Finding.{IsLooked}
use Rattle.x5_model_serve.specs.Answering.{is_service, in_vain, is_unavailable, of_these, local_part, with_unexplored, only_unexplored, merged, to_follow, passed_by}
use Rattle.x5_model_serve.specs.Serving as serving
use Rattle.x5_model_serve.specs.Serving.{Hand, hand, hand_of, Arrives, holds_now, found_at, parts_refs, at_limit, gathered_reply, heard_or, is_final, is_spent, limit_reply, next_line, user_line, nothing_yet, user_in_vain, begins_parts, with_line, with_accepted, carried_for, is_held_back, IsRequest, not_heard, not_told, answers, Unheard, Hears, Gathered, Whole, Broken, Heard, Act, Serves, Follows, Sends, Tries, Spreads, Casts, Gathers, Probes, Updates, loops, is_long, done_before, stuck, nowhere, refers, goes, casts, reads, reads_copy, gives_parts, asks_parts, updates, not_done, does, probes_all, misses, taken, breaks, no_probe, clear, holds_back, spent, lost, dropped, sends, final, referral, wide_referral, unexplored, none_yet, in_vain_too, none_asked, unable_too, silent_too, answered, nobody_has, some_silent, no_part, part_unheard, part_unavailable, part_answered, part_breaks}
use Rattle.x5_model_serve.proofs.Finals.{leaves}
use Rattle.x5_model_bounds.proofs.Able.{replies_able}
use Rattle.x5_model_bounds.proofs.Unables.{unable_sends_nothing}
use Rattle.x5_model_bounds.proofs.Parting.{rest_part, local_whole}
use Rattle.x5_model_local.specs.Hearing as hearing
use Rattle.x5_model_local.specs.Hearing.{itself, through, HeldThen, AskedBy, InVain, Cleared}
use Rattle.x5_model_local.specs.Joining as joining
use Rattle.x5_model_local.specs.Joining.{IsJoined, evaluates, merges, cuts}
use Rattle.x5_model_local.specs.Telling as telling
use Rattle.x5_model_local.specs.Telling.{Looks, IsMissed, IsLeftOut, Told}
use Rattle.x5_model_local.specs.Doing as doing
use Rattle.x5_model_local.specs.Doing.{Later, SentTold, NotedTold, AllMissed, WholeTold, AtUpdate, GoesBy, ToldOf, BySome, ByAgents, ServingIsTold}
use Rattle.x5_model_local.specs.Local as local
use Rattle.x5_model_local.specs.Local.{IsLocal, RequestsAreLocal}
use Rattle.x5_model_local.proofs.Some.{takes_some}
use Rattle.x5_model_local.proofs.Staying.{looks_stays, takes_stays, vain_stays, cleared_stays, joined_stays, missed_stays}
use Rattle.x5_model_local.proofs.Lifting.{false_true, lifted, referred_by, left_untried}
use Rattle.x5_model_local.proofs.Resting.{unavailable_by, missed_tried, missed_by, missed_unheard, is_alone, Parted, parted_by, of_limited, of_left, of_merged, merged_alone, followed_in, passed_in}

-- ---- what comes later

pub still : (most : ℕ) (i : Journal) → Later most i i
still most i = record { lines = λ l m. m; accepted = λ a e. e; spent = λ e. e }

pub later_on : {most : ℕ} {i j l : Journal} → Later most i j → Later most j l → Later most i l
later_on a b = record {
  lines = λ x m. b.lines x (a.lines x m);
  accepted = λ x e. b.accepted x (a.accepted x e);
  spent = λ e. b.spent (a.spent e);
}

at_most : (a b : ℕ) → a ≤ b → nat_le a b ≡ true
at_most a b l = elim (leb_tells a b) [ inl t ↦ t.0 | inr f ↦ (let m = f.1 in absurd (omega (arith, l, m))) ]

of_at_most : (a b : ℕ) → nat_le a b ≡ true → a ≤ b
of_at_most a b e = elim (leb_tells a b) [ inl t ↦ t.1 | inr f ↦ (let x = f.0 in cc) ]

more_spent : (n : ℕ) (l : Line) (xs : List Line) → nat_le n (length xs) ≡ true → nat_le n (length (l ∷ xs)) ≡ true
more_spent n l xs e = at_most n (length (l ∷ xs)) (let w = of_at_most n (length xs) e in omega (arith, w))

pub one_more : (most : ℕ) (l : Line) (i : Journal) → Later most i (with_line l i)
one_more most l i = record {
  lines = λ x m. there m;
  accepted = λ a e. e;
  spent = more_spent most l i.lines;
}

pub accepts_more : (most a : ℕ) (i : Journal) → Later most i (with_accepted a i)
accepts_more most a i = record {
  lines = λ x m. m;
  accepted = λ b e. or_right (a == b) (has ◌==◌ i.accepted b) e;
  spent = λ e. e;
}

has_first : (a : ℕ) (xs : List ℕ) → has ◌==◌ (a ∷ xs) a ≡ true
has_first a xs = or_left (a == a) (has ◌==◌ xs a) ((nat_same_decides a a).1 refl)

pub held_then : (s : Scene) (j : Journal) (k : Hand) → HeldThen s j k.receiver (holds_now s j k)
held_then s j k = by (has ◌==◌ j.accepted k.receiver) refl
  where
    by : (b : Bool) → has ◌==◌ j.accepted k.receiver ≡ b → HeldThen s j k.receiver (holds_now s j k)
    by true e = inr (e, rw e refl)
    by false e = inl (rw e refl)

abbrev looks : (s : Scene) (j : Journal) (k : Hand) → IsLooked k.message → Looks s j k k
looks s j k l = record { hears = itself; looked = l; holds = holds_now s j k; at_time = held_then s j k }

-- ---- agents of a reference

last_of : (a : ℕ) (before : List ℕ) (P : ℕ → Type 0) → ((b : ℕ) → In b before → P b) → P a → (b : ℕ) → In b (before ++ a ∷ []) → P b
last_of a before P f p b i = elim (in_either b before (a ∷ []) i) [
  | inl j ↦ f b j
  | inr j ↦ elim (in_first b a [] j) [ inl e ↦ subst P (sym e) p | inr n ↦ elim n [ ] ]
]

not_empty : (xs : List ℕ) (a : ℕ) → is_empty (xs ++ a ∷ []) ≡ false
not_empty [] a = refl
not_empty (x ∷ xs) a = refl

module _ (s : Scene) (most : ℕ) where
  abbrev Done : Act → Journal → Journal → Type 0
  Done x i j = doing.Does s most x i j

  noted_none : (o : Hand) (r : Reference) (j : Journal) → NotedTold s o r [] [] j
  noted_none o r j = record { some = λ a i. i; vain = λ a i. elim i [ ]; cleared = λ a i n. elim i [ ] }

  -- one more is cleared
  noted_clear : (o : Hand) (r : Reference) (before noted : List ℕ) (a : ℕ) (i j : Journal) → Later most i j → NotedTold s o r before noted i → Cleared s j.lines o r a
      → NotedTold s o r (before ++ a ∷ []) noted j
  noted_clear o r before noted a i j later n c = record {
    some = λ b m. in_left b before (a ∷ []) (n.some b m);
    vain = λ b m. vain_stays s most i j later (n.vain b m);
    cleared = λ b m. by b (in_either b before (a ∷ []) m);
  }
    where
      by : (b : ℕ) → In b before ⊎ In b (a ∷ []) → (In b noted → ⊥) → Cleared s j.lines o r b
      by b (inl m) out = cleared_stays s most i j later (n.cleared b m out)
      by b (inr m) out = elim (in_first b a [] m) [ inl e ↦ subst (Cleared s j.lines o r) (sym e) c | inr z ↦ elim z [ ] ]

  -- one more is noted
  noted_more : (o : Hand) (r : Reference) (before noted : List ℕ) (a : ℕ) (i j : Journal) → Later most i j → NotedTold s o r before noted i → InVain j.lines o r a
      → NotedTold s o r (before ++ a ∷ []) (noted ++ a ∷ []) j
  noted_more o r before noted a i j later n v = record {
    some = λ b m. some b (in_either b noted (a ∷ []) m);
    vain = last_of a noted (InVain j.lines o r) (λ b m. vain_stays s most i j later (n.vain b m)) v;
    cleared = λ b m. by b (in_either b before (a ∷ []) m);
  }
    where
      some : (b : ℕ) → In b noted ⊎ In b (a ∷ []) → In b (before ++ a ∷ [])
      some b (inl m) = in_left b before (a ∷ []) (n.some b m)
      some b (inr m) = in_right b before (a ∷ []) m

      by : (b : ℕ) → In b before ⊎ In b (a ∷ []) → (In b (noted ++ a ∷ []) → ⊥) → Cleared s j.lines o r b
      by b (inl m) out = cleared_stays s most i j later (n.cleared b m (λ w. out (in_left b noted (a ∷ []) w)))
      by b (inr m) out = absurd (out (in_right b noted (a ∷ []) m))

  cleared_by : (from : Option ℕ) (o : Hand) (r : Reference) (a : ℕ) (y : Reply) (i j : Journal) → serving.Does s most (Sends from o r a (Hears y)) i j → is_service unable_to_proceed y ≡ true
      → SentTold s most o r a j (Hears y) → Cleared s j.lines o r a
  cleared_by from o r a y i j d e (inl t) =
      let w = unable_sends_nothing replies_able s most _ _ _ d e in
      record { asked = t.0; heard = t.1; short = w.3 }
  cleared_by from o r a y i j d e (inr t) = absurd (false_true (ap (is_service unable_to_proceed) (sym t.0) ∙ e))

  vain_by : (o : Hand) (r : Reference) (a : ℕ) (y : Reply) (j : Journal) → is_service unavailable y ≡ true → SentTold s most o r a j (Hears y) → InVain j.lines o r a
  vain_by o r a y j e (inl t) = hearing.unsure t.0 t.1 (missed_unheard (unavailable_by t.2 e).missed)
  vain_by o r a y j e (inr t) = absurd (false_true (ap (is_service unavailable) (sym t.0) ∙ e))

  -- what is heard of one agent, the opener rests on
  opens : (o : Hand) (r : Reference) (a : ℕ) (y : Reply) (j : Journal) → is_final y ≡ true → SentTold s most o r a j (Hears y) → Told s most j o y
  opens o r a y j e (inl t) = lifted s most j o (through t.0.line r itself t.0.stands t.1 t.0.message_is) e t.2
  opens o r a y j e (inr t) = subst (Told s most j o) (sym t.0) (telling.ran_out t.1)

  missed_all : (o : Hand) (r : Reference) (agents : List ℕ) (i j : Journal) → Later most i j → hearing.Takes s i o r → is_empty agents ≡ false
      → ((a : ℕ) → In a agents → In a r.agents) → ((a : ℕ) → In a agents → InVain j.lines o r a) → IsMissed s j o (of_these agents r)
  missed_all o r agents i j later t e f v = record {
    at = o;
    hears = itself;
    full = r;
    takes = takes_stays s most i j later t;
    agents = agents;
    some = e;
    listed = f;
    vain = v;
    same = refl;
  }

  heard_told : (o : Hand) (r : Reference) (h : Heard) (j : Journal) → doing.TakenTold s most o r j h → Told s most j o (heard_or (is_unavailable (in_vain r)) h)
  heard_told o r Unheard j t = telling.missed (in_vain r) t
  heard_told o r (Hears y) j t = t

  whole_told : (o : Hand) (w : Gathered) (j : Journal) → WholeTold s most o j w → Told s most j o (gathered_reply o w)
  whole_told o (Whole a) j t =
      telling.parts _ (cuts o.message.request.controls.size a t.0)
      (λ u m. inr (t.1 u (subst (In u) (of_limited o.message.request.controls.size a) m)))
  whole_told o (Broken y) j t = t

  left_more : (o : Hand) (b : Answer) (u : Reference) (j : Journal) → IsJoined s j o b → AllMissed s j o b → IsMissed s j o u
      → WholeTold s most o j (Whole (with_unexplored (u ∷ []) b))
  left_more o b u j t f m = (
    joining.leaves (u ∷ []) b t,
    λ z n. elim (of_left (u ∷ []) b z n) [
      | inl g ↦ f z g
      | inr g ↦ elim (in_first z u [] g) [ inl e ↦ subst (IsMissed s j o) (sym e) m | inr q ↦ elim q [ ] ]
    ],
  )

  abbrev begins : Hand → Journal → Bool
  begins k j = begins_parts k (found_at s j k)

  probe_told : (k : Hand) (r : Reference) (a : ℕ) (y : Answer) (before after : List ℕ) (i l : Journal) → Later most i l → AtUpdate s k i
      → due_probes (holds_now s i k) k.message ≡ r ∷ [] → r.agents ≡ before ++ a ∷ after → SentTold s most k r a l (Hears (Answered y))
      → Told s most l k (Failed (UpdateProblem entry_already_exists))
  probe_told k r a y before after i l later u due e (inl t) =
      telling.probed k r a y (looks_stays s most i l later (looks s i k u.looked)) (subst (In r) (sym due) here)
      (subst (In a) (sym e) (in_right a before (a ∷ after) here)) t.0 t.1 t.2
  probe_told k r a y before after i l later u due e (inr t) = absurd (never t.0)
    where
      never : Answered y ≡ limit_reply → ⊥
      never q = cc

  joined_more : (o : Hand) (b c : Answer) (j : Journal) → IsJoined s j o b → AllMissed s j o b → Told s most j o (Answered c) → is_final (Answered c) ≡ true
      → WholeTold s most o j (Whole (merged b c))
  joined_more o b c j t f told e = by (parted_by c told refl)
    where
      by : (is_alone c ≡ true) ⊎ Parted s j o c → WholeTold s most o j (Whole (merged b c))
      by (inl q) = subst (λ (x : Answer). WholeTold s most o j (Whole x)) (sym (merged_alone b c q)) (t, f)
      by (inr p) = (
        merges b c t p.joined,
        λ u m. elim (of_merged b c u m) [ inl n ↦ f u n | inr n ↦ rest u n (p.rests u n) ],
      )
        where
          rest : (u : Reference) → In u (unexplored_of c) → IsLeftOut s j o u ⊎ IsMissed s j o u → IsMissed s j o u
          rest u n (inl l) = absurd (left_untried u (unexplored_of c) n l.untried e)
          rest u n (inr l) = l

  -- what is left to be followed of a reply that its agent gave
  pub follows_parts : (k : Hand) (a : Answer) (i : Journal) → Told s most i k (Answered a) → is_final (Answered a) ≡ false → Parted s i k a
  follows_parts k a i t e = by a (parted_by a t refl) e
    where
      by : (b : Answer) → (is_alone b ≡ true) ⊎ Parted s i k b → is_final (Answered b) ≡ false → Parted s i k b
      by b (inr p) f = p
      by (EntryFound info source) (inl q) f = absurd (false_true (sym f))
      by (Matched equal copy source) (inl q) f = absurd (false_true (sym f))
      by (Listed subs sources o) (inl q) f = absurd (false_true q)
      by (Found infos sources o) (inl q) f = absurd (false_true q)
      by Changed (inl q) f = absurd (false_true (sym f))

  pub untried_takes : (k : Hand) (a : Answer) (i : Journal) → Parted s i k a → (r : Reference) → In r (to_follow a) → hearing.Takes s i k r
  untried_takes k a i p r m = by (followed_in a r m)
    where
      by : In r (unexplored_of a) × (r.tried ≡ false) → hearing.Takes s i k r
      by w = elim (p.rests r w.0) [
        | inl l ↦ l.takes
        | inr l ↦ absurd (false_true (sym w.1 ∙ ap (λ (x : Reference). x.tried) l.same))
      ]

  passed_missed : (k : Hand) (a : Answer) (i : Journal) → Parted s i k a → is_final (Answered a) ≡ false → AllMissed s i k (only_unexplored (passed_by a) a)
  passed_missed k a i p e u m = by a refl m
    where
      at : In u (passed_by a) → IsMissed s i k u
      at n = go (passed_in a u n)
        where
          go : In u (unexplored_of a) × (u.tried ≡ true) → IsMissed s i k u
          go w = elim (p.rests u w.0) [
            | inl l ↦ absurd (false_true (sym l.untried ∙ w.1))
            | inr l ↦ l
          ]

      by : (b : Answer) → a ≡ b → In u (unexplored_of (only_unexplored (passed_by a) b)) → IsMissed s i k u
      by (EntryFound info source) q n = elim n [ ]
      by (Matched equal copy source) q n = elim n [ ]
      by (Listed subs sources o) q n = at n
      by (Found infos sources o) q n = at n
      by Changed q n = elim n [ ]

  parts_told : (k : Hand) (a : Answer) (j : Journal) → Arrives s k j → begins k j ≡ true → local_part (holds_now s j k) k.message ≡ Answered a
      → IsJoined s j k a × AllMissed s j k a
  parts_told k a j v b e = (
    evaluates k (holds_now s j k) a itself (held_then s j k) (v.unrefused, v.fit) b e,
    λ u m. absurd (none (unexplored_of a) (local_whole (holds_now s j k) k.message a e) u m),
  )
    where
      none : (us : List Reference) → us ≡ [] → (u : Reference) → In u us → ⊥
      none us q u m = elim (subst (In u) q m) [ ]

  part_takes : (k : Hand) (j : Journal) → Arrives s k j → begins k j ≡ true → (r : Reference) → In r (parts_refs s j k) → hearing.Takes s j k r
  part_takes k j v b r m = hearing.part (holds_now s j k) (held_then s j k) (v.unrefused, v.fit) b m

  abbrev probes_by : (k : Hand) (r : Reference) (i : Journal) → AtUpdate s k i → due_probes (holds_now s i k) k.message ≡ r ∷ [] → hearing.Takes s i k r
  probes_by k r i u e = hearing.probe (holds_now s i k) (held_then s i k) u.looked (subst (In r) (sym e) here)

  -- no agent holds a message back
  not_held : (from : Option ℕ) (x : Hand) → BySome from → is_held_back from x ≡ true → ⊥
  not_held None x by e = absurd (false_true by)
  not_held (Some a) x by e = absurd (false_true e)

  pub whatever : (x : Act) (i j : Journal) → serving.Does s most x i j → ByAgents x → Done x i j
  whatever _ _ _ (loops {k} {j} e) by = record { later = still most j; told = telling.looped k itself e }
  whatever _ _ _ (is_long {k} {j} e f) by = record { later = still most j; told = telling.at_limit k itself e f }
  whatever _ _ _ (done_before {k} {j} e f g) by =
      let w = both_true (is_update k.message.request.body) _ g in
      let v = both_true (has ◌==◌ j.accepted k.receiver) _ w.1 in
      record { later = still most j; told = telling.changed k itself w.0 v.0 }
  whatever _ _ _ (serving.refused {k} {j} x e f g h) by = record { later = still most j; told = telling.refused k x itself h }
  whatever _ _ _ (serving.unfit {k} {j} e f g h n) by = record { later = still most j; told = telling.misfits k itself e f h n }
  whatever _ _ _ (stuck {k} {j} v e) by =
      record { later = still most j; told = telling.stops k v.unlooped v.short (looks s j k (v.unrefused, v.fit)) e }
  whatever _ _ _ (nowhere {k} {j} n v e) by =
      record { later = still most j; told = telling.absent k n (looks s j k (v.unrefused, v.fit)) e }
  whatever _ _ _ (refers {k} {j} r v e f) by =
      record { later = still most j; told = telling.referred r (looks s j k (v.unrefused, v.fit)) e f }
  whatever _ _ _ (goes {k} {i} {j} r h v e f g d) by =
      let w = whatever _ _ _ d refl in record {
        later = w.later;
        told = heard_told k r h j (w.told (hearing.onward (holds_now s i k) (held_then s i k) (v.unrefused, v.fit) e));
      }
  whatever _ _ _ (casts {k} {i} {j} r y v e f g d) by =
      let w = whatever _ _ _ d refl in record {
        later = w.later;
        told = w.told (record { at = looks s i k (v.unrefused, v.fit); found = e; wide = g });
      }
  whatever _ _ _ (reads {k} {j} c v e f g) by =
      record { later = still most j; told = telling.in_own k c (looks s j k (v.unrefused, v.fit)) e f g }
  whatever _ _ _ (reads_copy {k} {j} c v e f) by =
      record { later = still most j; told = telling.in_copy k c (looks s j k (v.unrefused, v.fit)) e f }
  whatever _ _ _ (gives_parts {k} {j} a v b f e) by =
      let w = parts_told k a j v b e in record {
        later = still most j;
        told =
            telling.parts _ (cuts k.message.request.controls.size _ (joining.leaves (parts_refs s j k) a w.0))
            (λ u m. elim (of_left (parts_refs s j k) a u (subst (In u) (of_limited k.message.request.controls.size (with_unexplored (parts_refs s j k) a)) m)) [
              | inl n ↦ inr (w.1 u n)
              | inr n ↦ inl (record {
                idle = f;
                untried = (rest_part (holds_now s j k) k.message u n).1;
                takes = part_takes k j v b u n;
              })
            ]);
      }
  whatever _ _ _ (asks_parts {k} {i} {j} a whole v b f e d) by =
      let w = whatever _ _ _ d refl in
      let p = parts_told k a i v b e in record {
        later = w.later;
        told = whole_told k whole j (w.told (part_takes k i v b) p.0 p.1);
      }
  whatever _ _ _ (updates {k} {i} {j} c y v e f d) by =
      let w = whatever _ _ _ d tt in record {
        later = w.later;
        told = w.told (record { looked = (v.unrefused, v.fit); context = c; found = e; update = f });
      }
  whatever _ _ _ (not_done {k} {j} x e) by = record {
    later = still most j;
    told = λ u. telling.judged k u.context x (looks s j k u.looked) u.found u.update e;
  }
  whatever _ _ _ (does {k} {j} mine e f) by = record {
    later = accepts_more most k.receiver j;
    told = λ u. telling.changed k itself u.update (has_first k.receiver j.accepted);
  }
  whatever _ _ _ (probes_all {k} {i} {j} mine r e f d) by =
      let w = whatever _ _ _ d tt in record {
        later = later_on w.later (accepts_more most k.receiver j);
        told = λ u. telling.changed k itself u.update (has_first k.receiver j.accepted);
      }
  whatever _ _ _ (misses {k} {i} {j} mine r a noted e f d) by =
      let w = whatever _ _ _ d tt in record {
        later = w.later;
        told = λ u. telling.missed (of_these (noted ++ a ∷ []) r) (missed_all k r (noted ++ a ∷ []) i j w.later (probes_by k r i u f) (not_empty noted a) w.told.some w.told.vain);
      }
  whatever _ _ _ (taken {k} {i} {j} {l} mine r a b c n y e f g d u) by =
      let w = whatever _ _ _ d tt in
      let v = whatever _ _ _ u refl in record {
        later = later_on w.later v.later;
        told = λ t. probe_told k r a y b c i l (later_on w.later v.later) t f g v.told;
      }
  whatever _ _ _ (breaks {k} {i} {j} {l} mine r a b c n x e f g p q d u) by =
      let w = whatever _ _ _ d tt in
      let v = whatever _ _ _ u refl in record {
        later = later_on w.later v.later;
        told = λ t. opens k r a (Failed x) l refl v.told;
      }
  whatever _ _ _ (no_probe {k} {r} {j}) by = record { later = still most j; told = noted_none k r j }
  whatever _ _ _ (clear {k} {r} {i} {j} {l} {before} {noted} a y e d u) by =
      let w = whatever _ _ _ d tt in
      let v = whatever _ _ _ u refl in record {
        later = later_on w.later v.later;
        told = noted_clear k r before noted a j l v.later w.told (cleared_by (Some k.receiver) k r a y j l u e v.told);
      }
  whatever _ _ _ (serving.unsure {k} {r} {i} {j} {l} {before} {noted} a y e d u) by =
      let w = whatever _ _ _ d tt in
      let v = whatever _ _ _ u refl in record {
        later = later_on w.later v.later;
        told = noted_more k r before noted a j l v.later w.told (vain_by k r a y l e v.told);
      }
  whatever _ _ _ (serving.silent {k} {r} {i} {j} {l} {before} {noted} a d u) by =
      let w = whatever _ _ _ d tt in
      let v = whatever _ _ _ u refl in record {
        later = later_on w.later v.later;
        told = noted_more k r before noted a j l v.later w.told (hearing.silent v.told.0 v.told.1);
      }
  whatever _ _ _ (holds_back {from} {o} {r} a e) by = absurd (not_held from (hand a (carried_for from o r)) by e)
  whatever _ _ _ (spent {from} {o} {r} {j} a free e) by = record { later = still most j; told = inr (refl, e) }
  whatever _ _ _ (lost {from} {o} {r} {j} a free e f) by =
      let x = next_line s j from o r a in record {
        later = one_more most x j;
        told = (record { line = x; stands = here; receiver_is = refl; message_is = refl }, ap is_unheard f);
      }
  whatever _ _ _ (dropped {from} {o} {r} {i} {j} a y free e f d) by =
      let x = next_line s i from o r a in
      let w = whatever _ _ _ d tt in record {
        later = later_on (one_more most x i) w.later;
        told = (record { line = x; stands = w.later.lines x here; receiver_is = refl; message_is = refl }, ap is_unheard f);
      }
  whatever _ _ _ (sends {from} {o} {r} {i} {j} {l} a y last free e f d u) by =
      let x = next_line s i from o r a in
      let w = whatever _ _ _ d tt in
      let v = whatever _ _ _ u by in record {
        later = later_on (one_more most x i) (later_on w.later v.later);
        told =
            inl (
              record { line = x; stands = v.later.lines x (w.later.lines x here); receiver_is = refl; message_is = refl },
              f,
              v.told w.told,
            );
      }
  whatever _ _ _ (final {from} {k} {j} y e) by = record { later = still most j; told = λ t. t }
  whatever _ _ _ (referral {from} {k} {i} {j} r h e d) by =
      let w = whatever _ _ _ d by in record {
        later = w.later;
        told =
            λ t.
            let p = referred_by r t refl in
            heard_told k r h j (w.told (hearing.onward p.0.holds p.0.at_time p.0.looked p.1));
      }
  whatever _ _ _ (wide_referral {from} {k} {i} {j} r y e d) by =
      let w = whatever _ _ _ d by in record {
        later = w.later;
        told = λ t. (let p = referred_by r t refl in w.told (record { at = p.0; found = p.1; wide = e }));
      }
  whatever _ _ _ (unexplored {from} {k} {i} {j} a whole e d) by =
      let w = whatever _ _ _ d by in record {
        later = w.later;
        told =
            λ t.
            let p = follows_parts k a i t e in
            whole_told k whole j (w.told (untried_takes k a i p) (joining.keeps (passed_by a) a p.joined) (passed_missed k a i p e));
      }
  whatever _ _ _ (none_yet {from} {o} {r} {j}) by = record { later = still most j; told = λ a m. elim m [ ] }
  whatever _ _ _ (in_vain_too {from} {o} {r} {i} {j} {l} {before} a d u) by =
      let w = whatever _ _ _ d by in
      let v = whatever _ _ _ u by in record {
        later = later_on w.later v.later;
        told =
            last_of a before (InVain l.lines o r) (λ b m. vain_stays s most j l v.later (w.told b m))
            (hearing.silent v.told.0 v.told.1);
      }
  whatever _ _ _ (serving.heard {from} {o} {r} {i} {j} {l} b c a y e d u) by =
      let w = whatever _ _ _ d by in
      let v = whatever _ _ _ u by in record {
        later = later_on w.later v.later;
        told = λ t. opens o r a y l (leaves s most _ _ _ u) v.told;
      }
  whatever _ _ _ (serving.unheard {from} {o} {r} {i} {j} d) by =
      let w = whatever _ _ _ d by in record {
        later = w.later;
        told = λ t. missed_all o r r.agents i j w.later t (takes_some s i o r t) (λ a m. m) w.told;
      }
  whatever _ _ _ (none_asked {from} {o} {r} {j}) by = record { later = still most j; told = noted_none o r j }
  whatever _ _ _ (unable_too {from} {o} {r} {i} {j} {l} {before} {noted} a y e d u) by =
      let w = whatever _ _ _ d by in
      let v = whatever _ _ _ u by in record {
        later = later_on w.later v.later;
        told = noted_clear o r before noted a j l v.later w.told (cleared_by from o r a y j l u e v.told);
      }
  whatever _ _ _ (silent_too {from} {o} {r} {i} {j} {l} {before} {noted} a d u) by =
      let w = whatever _ _ _ d by in
      let v = whatever _ _ _ u by in record {
        later = later_on w.later v.later;
        told = noted_more o r before noted a j l v.later w.told (hearing.silent v.told.0 v.told.1);
      }
  whatever _ _ _ (answered {from} {o} {r} {i} {j} {l} b c n a y e f d u) by =
      let w = whatever _ _ _ d by in
      let v = whatever _ _ _ u by in record {
        later = later_on w.later v.later;
        told = λ t. opens o r a y l (leaves s most _ _ _ u) v.told;
      }
  whatever _ _ _ (nobody_has {from} {o} {r} {i} {j} d) by =
      let w = whatever _ _ _ d by in record {
        later = w.later;
        told = λ t. telling.nobody o r (looks_stays s most i j w.later t.at) t.found t.wide (λ a m. w.told.cleared a m (λ n. elim n [ ]));
      }
  whatever _ _ _ (some_silent {from} {o} {r} {i} {j} noted e d) by =
      let w = whatever _ _ _ d by in record {
        later = w.later;
        told = λ t. telling.missed (of_these noted r) (missed_all o r noted i j w.later (hearing.onward t.at.holds t.at.at_time t.at.looked t.found) e w.told.some w.told.vain);
      }
  whatever _ _ _ (no_part {from} {o} {a} {j}) by = record { later = still most j; told = λ t p q. (p, q) }
  whatever _ _ _ (part_unheard {from} {o} {i} {j} {l} {rs} {a} {b} r d u) by =
      let w = whatever _ _ _ d by in
      let v = whatever _ _ _ u by in record {
        later = later_on w.later v.later;
        told =
            λ t p q.
            let x = w.told (λ z m. t z (in_left z rs (r ∷ []) m)) p q in
            let y = v.told (takes_stays s most i j w.later (t r (in_right r rs (r ∷ []) here))) in
            left_more o b (in_vain r) l (joined_stays s most j l v.later x.0) (λ z m. missed_stays s most j l v.later (x.1 z m)) y;
      }
  whatever _ _ _ (part_unavailable {from} {o} {i} {j} {l} {rs} {a} {b} r z d u) by =
      let w = whatever _ _ _ d by in
      let v = whatever _ _ _ u by in record {
        later = later_on w.later v.later;
        told =
            λ t p q.
            let x = w.told (λ g m. t g (in_left g rs (r ∷ []) m)) p q in
            let y = missed_by z (v.told (takes_stays s most i j w.later (t r (in_right r rs (r ∷ []) here)))) in
            left_more o b (in_vain z) l (joined_stays s most j l v.later x.0) (λ g m. missed_stays s most j l v.later (x.1 g m)) (subst (IsMissed s l o) (sym (missed_tried y)) y);
      }
  whatever _ _ _ (part_answered {from} {o} {i} {j} {l} {rs} {a} {b} r c d u) by =
      let w = whatever _ _ _ d by in
      let v = whatever _ _ _ u by in record {
        later = later_on w.later v.later;
        told =
            λ t p q.
            let x = w.told (λ g m. t g (in_left g rs (r ∷ []) m)) p q in
            let y = v.told (takes_stays s most i j w.later (t r (in_right r rs (r ∷ []) here))) in
            joined_more o b c l (joined_stays s most j l v.later x.0) (λ g m. missed_stays s most j l v.later (x.1 g m)) y (leaves s most _ _ _ u);
      }
  whatever _ _ _ (part_breaks {from} {o} {i} {j} {l} {a} {b} before after r x e d u) by =
      let w = whatever _ _ _ d by in
      let v = whatever _ _ _ u by in record {
        later = later_on w.later v.later;
        told = λ t p q. v.told (takes_stays s most i j w.later (t r (in_right r before (r ∷ after) here)));
      }

pub serving_is_told : ServingIsTold
serving_is_told s most x i j d by = whatever s most x i j d by

pub requests_are_local : RequestsAreLocal
requests_are_local s most _ _ (not_heard e) = local.unheard here (ap is_unheard e)
requests_are_local s most _ _ (not_told {j} reply e d) =
    local.unheard ((whatever s most _ _ _ d tt).later.lines (user_line s) here) (ap is_unheard e)
requests_are_local s most _ _ (answers {j} reply e d) =
    let w = whatever s most _ _ _ d tt in local.heard reply (w.later.lines (user_line s) here) e w.told
