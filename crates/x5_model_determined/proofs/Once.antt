-- Each thing that is done has one outcome: by one induction over the first of two derivations, where the second is taken
-- apart by what decides between the ways to do it.
use Rattle.std.proofs.Common.{◌≡◌, ℕ, Bool, true, false, ◌||◌, if◌then◌else◌, inl, inr, List, [], ◌∷◌, ◌++◌, refl, sym, ap, subst, ◌∙◌, Option, Some, Ok, Err}
use Rattle.x5_model.specs.Entries.{Named}
use Rattle.x5_model.specs.References.{Reference}
use Rattle.x5_model.specs.Answers.{Answer, Changed, DirError, NoSuchObject, Reply, Answered, Failed, Referred}
use Rattle.x5_model.specs.Problems.{unavailable}
use Rattle.x5_model_tree.specs.Apply.{UpdatedEntries}
use Rattle.x5_model_run.specs.Network.{Fate, Lost, NoReply, Sent}
use Rattle.x5_model_run.specs.Journal.{Journal, is_wide}
use Rattle.x5_model_run.specs.Needs.{due_probes}
use Rattle.x5_model_run.specs.Chain.{Scene}
use Rattle.x5_model_serve.specs.Answering.{reply_in_own, reply_in_copy, only_unexplored, to_follow, passed_by, is_service, in_vain, is_unavailable}
use Rattle.x5_model_serve.specs.Serving.{Hand, hand, is_held_back, Heard, Unheard, Hears, Gathered, Whole, Broken, Act, Serves, Follows, Sends, Tries, Takes, Spreads, Casts, Gathers, Probes, Updates, Does, carried_for, next_line, with_line, with_accepted, is_spent, holds_now, parts_refs, gathered_reply, limit_reply, heard_or, judged, is_final, user_line, user_in_vain, nothing_yet, IsRequest, not_heard, not_told, answers, loops, is_long, done_before, refused, unfit, stuck, nowhere, refers, goes, casts, reads, reads_copy, gives_parts, asks_parts, updates, not_done, does, probes_all, misses, taken, breaks, no_probe, clear, unsure, silent, holds_back, spent, lost, dropped, sends, final, referral, wide_referral, unexplored, none_yet, in_vain_too, heard, unheard, none_asked, unable_too, silent_too, answered, nobody_has, some_silent, no_part, part_unheard, part_unavailable, part_answered, part_breaks}
use Rattle.x5_model_determined.specs.Determined.{SameOutcome, ActsAreDetermined, RequestIsDetermined}
use Rattle.x5_model_determined.proofs.Loops.{LoopOnce, loop_none, loop_step, not_stopped, not_through, stop_same}
use Rattle.x5_model_determined.proofs.Courses.{Says, Asks, Multicasts, Joins, Commits, loop_reply, unfit_reply, stuck_reply, parts_reply, course, on_loop, on_long, on_done, on_fault, on_unfit, on_stuck, on_nowhere, on_referral, on_onward, on_read, on_copy, on_parts, on_update, same_course}
use Rattle.x5_model_determined.proofs.Views.{apart_problems, noting, none_noted, passes_tried, passes_cast, passes_probe, passes_part, gathering, SendsOne, TakesOne, TriesLoop, SpreadsLoop, ProbesLoop, GathersLoop, tries_view, spreads_view, probes_view, gathers_view, took, cast_reply, noted_reply, cast, probed_reply, probed_journal, missed_reply, missed_journal, stopped_reply, UpdatesAs, updates_at, gathered_by, SentAs, SentBy, at_fate, sent_at, ReferredAs, AnsweredAs, followed_as, Probed}

module _ (s : Scene) (most : ℕ) where
  -- ---- what is claimed

  abbrev GathersOnce : Option ℕ → Hand → List Reference → Answer → Gathered → Journal → Journal → Type 0
  GathersOnce from o rs a whole i j = (other : Gathered) (l : Journal) → Does s most (Gathers from o rs a other) i l → (other ≡ whole)
      × (l ≡ j)

  -- a whole goes on after each reference that was asked
  abbrev GathersOn : Option ℕ → Hand → List Reference → Answer → Gathered → Journal → Journal → Type 0
  GathersOn from o rs a (Whole b) i j = LoopOnce Reference Answer passes_part (GathersLoop s most from o a i)
      (TakesOne s most from o) rs b j
  GathersOn from o rs a (Broken x) i j = Unit {0}

  abbrev Claim : Act → Journal → Journal → Type 0
  Claim (Serves k reply) i j = (other : Reply) (l : Journal) → Does s most (Serves k other) i l → (other ≡ reply) × (l ≡ j)
  Claim (Follows from k reply end) i j = (other : Reply) (l : Journal) → Does s most (Follows from k reply other) i l → (other ≡ end)
      × (l ≡ j)
  Claim (Sends from o r a h) i j = (other : Heard) (l : Journal) → Does s most (Sends from o r a other) i l → (other ≡ h) × (l ≡ j)
  Claim (Tries from o r agents) i j = LoopOnce ℕ (List ℕ) passes_tried (TriesLoop s most from o r i) (SendsOne s most from o r) agents [] j
  Claim (Takes from o r h) i j = (other : Heard) (l : Journal) → Does s most (Takes from o r other) i l → (other ≡ h) × (l ≡ j)
  Claim (Spreads from o r agents noted) i j =
      LoopOnce ℕ (List ℕ) passes_cast (SpreadsLoop s most from o r i) (SendsOne s most from o r) agents noted j
  Claim (Casts from o r reply) i j = (other : Reply) (l : Journal) → Does s most (Casts from o r other) i l → (other ≡ reply) × (l ≡ j)
  Claim (Gathers from o rs a whole) i j = GathersOnce from o rs a whole i j × GathersOn from o rs a whole i j
  Claim (Probes k r agents noted) i j =
      LoopOnce ℕ (List ℕ) passes_probe (ProbesLoop s most k r i) (SendsOne s most (Some k.receiver) k r) agents noted j
  Claim (Updates k reply) i j = (other : Reply) (l : Journal) → Does s most (Updates k other) i l → (other ≡ reply) × (l ≡ j)

  -- ---- serving

  on_goes : (k : Hand) (r : Reference) (h : Heard) (i j : Journal) → course s k i ≡ Asks r → Claim (Takes (Some k.receiver) k r h) i j
      → Claim (Serves k (heard_or (is_unavailable (in_vain r)) h)) i j
  on_goes k r h i j e c other l d =
      let w = same_course s most k i (Asks r) other l e d in
      let p = c w.0 l w.1 in
      (w.2 ∙ ap (heard_or (is_unavailable (in_vain r))) p.0, p.1)

  on_joins : (k : Hand) (a : Answer) (whole : Gathered) (i j : Journal) → course s k i ≡ Joins a
      → GathersOnce (Some k.receiver) k (parts_refs s i k) a whole i j
      → Claim (Serves k (gathered_reply k whole)) i j
  on_joins k a whole i j e c other l d =
      let w = same_course s most k i (Joins a) other l e d in
      let p = c w.0 l w.1 in
      (w.2 ∙ ap (gathered_reply k) p.0, p.1)

  -- ---- messages

  on_lost : (from : Option ℕ) (o : Hand) (r : Reference) (a : ℕ) (i : Journal) → is_held_back from (hand a (carried_for from o r)) ≡ false → is_spent most i ≡ false
      → (next_line s i from o r a).fate ≡ Lost
      → Claim (Sends from o r a Unheard) i (with_line (next_line s i from o r a) i)
  on_lost from o r a i hb e f other l d =
      at_fate s most from o r a other i l (is_spent most i) false (next_line s i from o r a).fate Lost e f
      (subst (λ (z : Bool). SentBy s most from o r a other i l z) hb (sent_at s most from o r a other i l d))

  on_dropped : (from : Option ℕ) (o : Hand) (r : Reference) (a : ℕ) (reply : Reply) (i j : Journal) → is_held_back from (hand a (carried_for from o r)) ≡ false → is_spent most i ≡ false
      → (next_line s i from o r a).fate ≡ NoReply
      → Claim (Serves (hand a (carried_for from o r)) reply) (with_line (next_line s i from o r a) i) j
      → Claim (Sends from o r a Unheard) i j
  on_dropped from o r a reply i j hb e f c other l d =
      let w = at_fate s most from o r a other i l (is_spent most i) false (next_line s i from o r a).fate NoReply e f
      (subst (λ (z : Bool). SentBy s most from o r a other i l z) hb (sent_at s most from o r a other i l d)) in
      (w.2, (c w.0 l w.1).1)

  on_sent : (from : Option ℕ) (o : Hand) (r : Reference) (a : ℕ) (reply end : Reply) (i m j : Journal) → is_held_back from (hand a (carried_for from o r)) ≡ false → is_spent most i ≡ false
      → (next_line s i from o r a).fate ≡ Sent
      → Claim (Serves (hand a (carried_for from o r)) reply) (with_line (next_line s i from o r a) i) m
      → Claim (Follows from (hand a (carried_for from o r)) reply end) m j
      → Claim (Sends from o r a (Hears end)) i j
  on_sent from o r a reply end i m j hb e f c b other l d =
      let w = at_fate s most from o r a other i l (is_spent most i) false (next_line s i from o r a).fate Sent e f
      (subst (λ (z : Bool). SentBy s most from o r a other i l z) hb (sent_at s most from o r a other i l d)) in
      let p = c w.0 w.2 w.3 in
      let u = subst (λ (z : Reply). Does s most (Follows from (hand a (carried_for from o r)) z w.1) m l) p.0
      (subst (λ (z : Journal). Does s most (Follows from (hand a (carried_for from o r)) w.0 w.1) z l) p.1 w.4) in
      let q = b w.1 l u in
      (w.5 ∙ ap Hears q.0, q.1)

  -- ---- replies

  on_final : (from : Option ℕ) (k : Hand) (reply : Reply) (i : Journal) → is_final reply ≡ true → Claim (Follows from k reply reply) i i
  on_final from k (Answered a) i e other l d =
      subst (λ (b : Bool). AnsweredAs s most from k a other i l b) e (followed_as s most from k (Answered a) other i l d)
  on_final from k (Failed x) i e other l d = followed_as s most from k (Failed x) other i l d
  on_final from k (Referred r) i e other l d = cc

  on_referred : (from : Option ℕ) (k : Hand) (r : Reference) (h : Heard) (i j : Journal) → is_wide r.kind ≡ false
      → Claim (Takes from k r h) i j
      → Claim (Follows from k (Referred r) (heard_or (is_unavailable (in_vain r)) h)) i j
  on_referred from k r h i j e c other l d =
      let w = subst (λ (b : Bool). ReferredAs s most from k r other i l b) e (followed_as s most from k (Referred r) other i l d) in
      let p = c w.0 l w.1 in
      (w.2 ∙ ap (heard_or (is_unavailable (in_vain r))) p.0, p.1)

  on_wide : (from : Option ℕ) (k : Hand) (r : Reference) (reply : Reply) (i j : Journal) → is_wide r.kind ≡ true
      → Claim (Casts from k r reply) i j
      → Claim (Follows from k (Referred r) reply) i j
  on_wide from k r reply i j e c other l d =
      c other l (subst (λ (b : Bool). ReferredAs s most from k r other i l b) e (followed_as s most from k (Referred r) other i l d))

  on_unexplored : (from : Option ℕ) (k : Hand) (a : Answer) (whole : Gathered) (i j : Journal) → is_final (Answered a) ≡ false
      → GathersOnce from k (to_follow a) (only_unexplored (passed_by a) a) whole i j
      → Claim (Follows from k (Answered a) (gathered_reply k whole)) i j
  on_unexplored from k a whole i j e c other l d =
      let w = subst (λ (b : Bool). AnsweredAs s most from k a other i l b) e (followed_as s most from k (Answered a) other i l d) in
      let p = c w.0 l w.1 in
      (w.2 ∙ ap (gathered_reply k) p.0, p.1)

  -- ---- the agents of a reference

  on_heard : (from : Option ℕ) (o : Hand) (r : Reference) (before after : List ℕ) (a : ℕ) (reply : Reply) (i m j : Journal)
      → r.agents ≡ before ++ a ∷ after
      → Claim (Tries from o r before) i m → Claim (Sends from o r a (Hears reply)) m j → Claim (Takes from o r (Hears reply)) i j
  on_heard from o r before after a reply i m j e c b other l d = elim (took s most from o r other i l d) [
    | inl w ↦ absurd (not_through ℕ (List ℕ) [] none_noted passes_tried i (TriesLoop s most from o r i) (SendsOne s most from o r)
        (tries_view s most from o r i)
        r.agents before after a [] (Hears reply) m j e c b refl [] l w.1)
    | inr w ↦ (let p = stop_same ℕ (List ℕ) [] none_noted passes_tried i (TriesLoop s most from o r i) (SendsOne s most from o r)
        (tries_view s most from o r i)
        r.agents before after a [] (Hears reply) m j e c b refl l w.0 in (w.1 ∙ p.0, p.1))
  ]

  on_unheard : (from : Option ℕ) (o : Hand) (r : Reference) (i j : Journal) → Claim (Tries from o r r.agents) i j
      → Claim (Takes from o r Unheard) i j
  on_unheard from o r i j c other l d = elim (took s most from o r other i l d) [
    | inl w ↦ (w.0, (c.0 [] l w.1).1)
    | inr w ↦ absurd (not_stopped ℕ (List ℕ) [] none_noted passes_tried i (TriesLoop s most from o r i) (SendsOne s most from o r)
        (tries_view s most from o r i) r.agents [] j l c w.0)
  ]

  -- ---- the agents of an NSSR

  on_answered : (from : Option ℕ) (o : Hand) (r : Reference) (before after noted : List ℕ) (a : ℕ) (reply : Reply) (i m j : Journal)
      → r.agents ≡ before ++ a ∷ after
      → passes_cast (Hears reply) ≡ false → Claim (Spreads from o r before noted) i m → Claim (Sends from o r a (Hears reply)) m j
      → Claim (Casts from o r reply) i j
  on_answered from o r before after noted a reply i m j e f c b other l d = elim (cast s most from o r other i l d) [
    | inl w ↦ absurd (not_through ℕ (List ℕ) [] noting passes_cast i (SpreadsLoop s most from o r i) (SendsOne s most from o r)
        (spreads_view s most from o r i)
        r.agents before after a noted (Hears reply) m j e c b f w.0 l w.1)
    | inr w ↦ (let p = stop_same ℕ (List ℕ) [] noting passes_cast i (SpreadsLoop s most from o r i) (SendsOne s most from o r)
        (spreads_view s most from o r i)
        r.agents before after a noted (Hears reply) m j e c b f l w.0 in (reply_of other (w.1 ∙ p.0), p.1))
  ]
    where
      reply_of : (y : Reply) → Hears y ≡ Hears reply → y ≡ reply
      reply_of y q = cc

  on_all : (from : Option ℕ) (o : Hand) (r : Reference) (noted : List ℕ) (i j : Journal) → Claim (Spreads from o r r.agents noted) i j
      → Claim (Casts from o r (cast_reply s most r noted)) i j
  on_all from o r noted i j c other l d = elim (cast s most from o r other i l d) [
    | inl w ↦ (let p = c.0 w.0 l w.1 in (w.2 ∙ ap (cast_reply s most r) p.0, p.1))
    | inr w ↦ absurd (not_stopped ℕ (List ℕ) [] noting passes_cast i (SpreadsLoop s most from o r i) (SendsOne s most from o r)
        (spreads_view s most from o r i) r.agents noted j l c w.0)
  ]

  on_spread : (from : Option ℕ) (o : Hand) (r : Reference) (before noted : List ℕ) (a : ℕ) (h : Heard) {state : List ℕ} (i m j : Journal)
      → passes_cast h ≡ true
      → noting h a noted ≡ state → Claim (Spreads from o r before noted) i m → Claim (Sends from o r a h) m j
      → Claim (Spreads from o r (before ++ a ∷ []) state) i j
  on_spread from o r before noted a h {state} i m j passes is c b =
      subst (λ (z : List ℕ). LoopOnce ℕ (List ℕ) passes_cast (SpreadsLoop s most from o r i) (SendsOne s most from o r)
      (before ++ a ∷ []) z j) is
      (loop_step ℕ (List ℕ) [] noting passes_cast i (SpreadsLoop s most from o r i) (SendsOne s most from o r)
      (spreads_view s most from o r i) before a noted h m j c b passes)

  -- ---- updates

  on_probe : (k : Hand) (r : Reference) (before noted : List ℕ) (a : ℕ) (h : Heard) {state : List ℕ} (i m j : Journal)
      → passes_probe h ≡ true
      → noting h a noted ≡ state → Claim (Probes k r before noted) i m → Claim (Sends (Some k.receiver) k r a h) m j
      → Claim (Probes k r (before ++ a ∷ []) state) i j
  on_probe k r before noted a h {state} i m j passes is c b =
      subst (λ (z : List ℕ). LoopOnce ℕ (List ℕ) passes_probe (ProbesLoop s most k r i) (SendsOne s most (Some k.receiver) k r)
      (before ++ a ∷ []) z j) is
      (loop_step ℕ (List ℕ) [] noting passes_probe i (ProbesLoop s most k r i) (SendsOne s most (Some k.receiver) k r)
      (probes_view s most k r i) before a noted h m j c b passes)

  -- its agent makes one thing of it, and knows which probes are due
  probed_at : (k : Hand) (other : Reply) (i l : Journal) (mine : List Named) (r : Reference) → judged s i k ≡ Ok mine
      → due_probes (holds_now s i k) k.message ≡ r ∷ []
      → Does s most (Updates k other) i l → Probed s most k r other i l
  probed_at k other i l mine r e f d =
      subst (λ (z : List Reference). UpdatesAs s most k other i l (Ok mine) z) f
      (subst (λ (z : UpdatedEntries). UpdatesAs s most k other i l z (due_probes (holds_now s i k) k.message)) e
      (updates_at s most k other i l d))

  on_refusal : (k : Hand) (i : Journal) (x : DirError) → judged s i k ≡ Err x → Claim (Updates k (Failed x)) i i
  on_refusal k i x e other l d =
      subst (λ (z : UpdatedEntries). UpdatesAs s most k other i l z (due_probes (holds_now s i k) k.message)) e (updates_at s most k other i l d)

  on_alone : (k : Hand) (i : Journal) (mine : List Named) → judged s i k ≡ Ok mine → due_probes (holds_now s i k) k.message ≡ []
      → Claim (Updates k (Answered Changed)) i (with_accepted k.receiver i)
  on_alone k i mine e f other l d =
      subst (λ (z : List Reference). UpdatesAs s most k other i l (Ok mine) z) f
      (subst (λ (z : UpdatedEntries). UpdatesAs s most k other i l z (due_probes (holds_now s i k) k.message)) e
      (updates_at s most k other i l d))

  on_probed : (k : Hand) (i j : Journal) (mine : List Named) (r : Reference) (noted : List ℕ) → judged s i k ≡ Ok mine
      → due_probes (holds_now s i k) k.message ≡ r ∷ []
      → Claim (Probes k r r.agents noted) i j → Claim (Updates k (probed_reply s most r noted)) i (probed_journal s most k noted j)
  on_probed k i j mine r noted e f c other l d = elim (probed_at k other i l mine r e f d) [
    | inl w ↦ (let p = c.0 w.0 w.1 w.2 in (w.3 ∙ ap (probed_reply s most r) p.0, w.4 ∙ (λ t. probed_journal s most k (p.0 t) (p.1 t))))
    | inr w ↦ absurd (not_stopped ℕ (List ℕ) [] noting passes_probe i (ProbesLoop s most k r i) (SendsOne s most (Some k.receiver) k r)
        (probes_view s most k r i) r.agents noted j l c w.0)
  ]

  on_stopped : (k : Hand) (i m j : Journal) (mine : List Named) (r : Reference) (a : ℕ) (before after noted : List ℕ) (h : Heard)
      → judged s i k ≡ Ok mine
      → due_probes (holds_now s i k) k.message ≡ r ∷ [] → r.agents ≡ before ++ a ∷ after → passes_probe h ≡ false
      → Claim (Probes k r before noted) i m → Claim (Sends (Some k.receiver) k r a h) m j → Claim (Updates k (stopped_reply s most h)) i j
  on_stopped k i m j mine r a before after noted h e f g stops c b other l d = elim (probed_at k other i l mine r e f d) [
    | inl w ↦ absurd (not_through ℕ (List ℕ) [] noting passes_probe i (ProbesLoop s most k r i) (SendsOne s most (Some k.receiver) k r)
        (probes_view s most k r i)
        r.agents before after a noted h m j g c b stops w.0 w.1 w.2)
    | inr w ↦ (let p = stop_same ℕ (List ℕ) [] noting passes_probe i (ProbesLoop s most k r i) (SendsOne s most (Some k.receiver) k r)
        (probes_view s most k r i)
        r.agents before after a noted h m j g c b stops l w.0 in (w.1 ∙ ap (stopped_reply s most) p.0, p.1))
  ]

  -- ---- the references of a list or search

  -- what goes on after each has one outcome
  on_whole : (from : Option ℕ) (o : Hand) (rs : List Reference) (a b : Answer) (i j : Journal)
      → LoopOnce Reference Answer passes_part (GathersLoop s most from o a i) (TakesOne s most from o) rs b j
      → Claim (Gathers from o rs a (Whole b)) i j
  on_whole from o rs a b i j c = (first, c)
    where
      first : (other : Gathered) (l : Journal) → Does s most (Gathers from o rs a other) i l → (other ≡ Whole b) × (l ≡ j)
      first other l d = elim (gathered_by s most from o rs a other i l d) [
        | inl w ↦ (let p = c.0 w.0 l w.1 in (w.2 ∙ ap Whole p.0, p.1))
        | inr w ↦ absurd (not_stopped Reference Answer a gathering passes_part i (GathersLoop s most from o a i) (TakesOne s most from o)
            (gathers_view s most from o a i) rs b j l c w.0)
      ]

  on_part : (from : Option ℕ) (o : Hand) (rs : List Reference) (r : Reference) (a b : Answer) (h : Heard) (i m j : Journal)
      → passes_part h ≡ true
      → Claim (Gathers from o rs a (Whole b)) i m → Claim (Takes from o r h) m j
      → Claim (Gathers from o (rs ++ r ∷ []) a (Whole (gathering h r b))) i j
  on_part from o rs r a b h i m j passes c t =
      on_whole from o (rs ++ r ∷ []) a (gathering h r b) i j
      (loop_step Reference Answer a gathering passes_part i (GathersLoop s most from o a i) (TakesOne s most from o)
      (gathers_view s most from o a i) rs r b h m j c.1 t passes)

  on_break : (from : Option ℕ) (o : Hand) (before after : List Reference) (r : Reference) (a b : Answer) (x : DirError) (i m j : Journal)
      → passes_part (Hears (Failed x)) ≡ false → Claim (Gathers from o before a (Whole b)) i m
      → Claim (Takes from o r (Hears (Failed x))) m j
      → Claim (Gathers from o (before ++ r ∷ after) a (Broken (Failed x))) i j
  on_break from o before after r a b x i m j stops c t = (first, tt)
    where
      first : (other : Gathered) (l : Journal) → Does s most (Gathers from o (before ++ r ∷ after) a other) i l
          → (other ≡ Broken (Failed x)) × (l ≡ j)
      first other l d = elim (gathered_by s most from o (before ++ r ∷ after) a other i l d) [
        | inl w ↦ absurd (not_through Reference Answer a gathering passes_part i (GathersLoop s most from o a i) (TakesOne s most from o)
            (gathers_view s most from o a i)
            (before ++ r ∷ after) before after r b (Hears (Failed x)) m j refl c.1 t stops w.0 l w.1)
        | inr w ↦ (let p = stop_same Reference Answer a gathering passes_part i (GathersLoop s most from o a i) (TakesOne s most from o)
            (gathers_view s most from o a i)
            (before ++ r ∷ after) before after r b (Hears (Failed x)) m j refl c.1 t stops l w.0 in
            let same : Hears (Failed w.1) ≡ Hears (Failed x) = sym w.2 ∙ p.0 in
            (w.3 ∙ ap Broken (reply_of (Failed w.1) same), p.1))
      ]
        where
          reply_of : (y : Reply) → Hears y ≡ Hears (Failed x) → y ≡ Failed x
          reply_of y q = cc

  -- ---- the induction

  says : (k : Hand) (i : Journal) (y : Reply) → course s k i ≡ Says y → Claim (Serves k y) i i
  says k i y e other l d = same_course s most k i (Says y) other l e d

  once : (x : Act) (i j : Journal) → Does s most x i j → Claim x i j
  once _ _ _ (loops {k} {j} e) = says k j (loop_reply k) (on_loop s k j e)
  once _ _ _ (is_long {k} {j} e f) = says k j limit_reply (on_long s k j e f)
  once _ _ _ (done_before {k} {j} e f g) = says k j (Answered Changed) (on_done s k j e f g)
  once _ _ _ (refused {k} {j} x e f g h) = says k j (Failed x) (on_fault s k j x e f g h)
  once _ _ _ (unfit {k} {j} e f g h m) = says k j (unfit_reply k) (on_unfit s k j e f g h m)
  once _ _ _ (stuck {k} {j} a e) = says k j (stuck_reply k) (on_stuck s k j a e)
  once _ _ _ (nowhere {k} {j} n a e) = says k j (Failed (NoSuchObject n)) (on_nowhere s k j n a e)
  once _ _ _ (refers {k} {j} r a e f) = says k j (Referred r) (on_referral s k j r a e f)
  once _ _ _ (goes {k} {i} {j} r h a e f g d) = on_goes k r h i j (on_onward s k i r false a e f g) (once _ _ _ d)
  once _ _ _ (casts {k} {i} {j} r y a e f g d) = λ other l u. once _ _ _ d other l
      (same_course s most k i (Multicasts r) other l (on_onward s k i r true a e f g) u)
  once _ _ _ (reads {k} {j} c a e f g) = says k j (reply_in_own k.receiver k.message c) (on_read s k j c a e f g)
  once _ _ _ (reads_copy {k} {j} c a e f) = says k j (reply_in_copy k.receiver k.message c) (on_copy s k j c a e f)
  once _ _ _ (gives_parts {k} {j} y a e f g) = says k j (parts_reply s k j y) (on_parts s k j y true a e f g)
  once _ _ _ (asks_parts {k} {i} {j} y w a e f g d) = on_joins k y w i j (on_parts s k i y false a e f g) (once _ _ _ d).0
  once _ _ _ (updates {k} {i} {j} c y a e f d) = λ other l u. once _ _ _ d other l
      (same_course s most k i Commits other l (on_update s k i c a e f) u)
  once _ _ _ (not_done {k} {j} x e) = on_refusal k j x e
  once _ _ _ (does {k} {j} mine e f) = on_alone k j mine e f
  once _ _ _ (probes_all {k} {i} {j} mine r e f d) = on_probed k i j mine r [] e f (once _ _ _ d)
  once _ _ _ (misses {k} {i} {j} mine r a noted e f d) = λ other l u.
      (let p = on_probed k i j mine r (noted ++ a ∷ []) e f (once _ _ _ d) other l u in
      (p.0 ∙ missed_reply s most r noted a, p.1 ∙ missed_journal s most k noted a j))
  once _ _ _ (taken {k} {i} {j} {l} mine r a b c n y e f g d u) = on_stopped k i j l mine r a b c n (Hears (Answered y)) e f g refl
      (once _ _ _ d) (once _ _ _ u)
  once _ _ _ (breaks {k} {i} {j} {l} mine r a b c n x e f g p q d u) =
      on_stopped k i j l mine r a b c n (Hears (Failed x)) e f g (ap (λ (z : Bool). z || is_service unavailable (Failed x)) p ∙ q)
      (once _ _ _ d) (once _ _ _ u)
  once _ _ _ (no_probe {k} {r} {j}) =
      loop_none ℕ (List ℕ) [] noting passes_probe j (ProbesLoop s most k r j) (SendsOne s most (Some k.receiver) k r)
      (probes_view s most k r j)
  once _ _ _ (clear {k} {r} {i} {j} {l} {before} {noted} a y e d u) = on_probe k r before noted a (Hears y) i j l
      (ap (λ (z : Bool). z || is_service unavailable y) e) (ap (λ (z : Bool). if z then noted else (noted ++ a ∷ [])) e) (once _ _ _ d)
      (once _ _ _ u)
  once _ _ _ (unsure {k} {r} {i} {j} {l} {before} {noted} a y e d u) = on_probe k r before noted a (Hears y) i j l
      (ap (λ (z : Bool). z || is_service unavailable y) (apart_problems y e) ∙ e)
      (ap (λ (z : Bool). if z then noted else (noted ++ a ∷ [])) (apart_problems y e)) (once _ _ _ d) (once _ _ _ u)
  once _ _ _ (silent {k} {r} {i} {j} {l} {before} {noted} a d u) = on_probe k r before noted a Unheard i j l refl refl (once _ _ _ d)
      (once _ _ _ u)
  once _ _ _ (holds_back {from} {o} {r} {j} a e) = λ other l d. subst (λ (z : Bool). SentBy s most from o r a other j l z) e (sent_at s most from o r a other j l d)
  once _ _ _ (spent {from} {o} {r} {j} a hb e) = λ other l d. subst
      (λ (z : Bool). SentAs s most from o r a other j l z (next_line s j from o r a).fate) e
      (subst (λ (z : Bool). SentBy s most from o r a other j l z) hb (sent_at s most from o r a other j l d))
  once _ _ _ (lost {from} {o} {r} {j} a hb e f) = on_lost from o r a j hb e f
  once _ _ _ (dropped {from} {o} {r} {i} {j} a y hb e f d) = on_dropped from o r a y i j hb e f (once _ _ _ d)
  once _ _ _ (sends {from} {o} {r} {i} {j} {l} a y z hb e f d u) = on_sent from o r a y z i j l hb e f (once _ _ _ d) (once _ _ _ u)
  once _ _ _ (final {from} {k} {j} y e) = on_final from k y j e
  once _ _ _ (referral {from} {k} {i} {j} r h e d) = on_referred from k r h i j e (once _ _ _ d)
  once _ _ _ (wide_referral {from} {k} {i} {j} r y e d) = on_wide from k r y i j e (once _ _ _ d)
  once _ _ _ (unexplored {from} {k} {i} {j} a w e d) = on_unexplored from k a w i j e (once _ _ _ d).0
  once _ _ _ (none_yet {from} {o} {r} {j}) =
      loop_none ℕ (List ℕ) [] none_noted passes_tried j (TriesLoop s most from o r j) (SendsOne s most from o r)
      (tries_view s most from o r j)
  once _ _ _ (in_vain_too {from} {o} {r} {i} {j} {l} {before} a d u) =
      loop_step ℕ (List ℕ) [] none_noted passes_tried i (TriesLoop s most from o r i) (SendsOne s most from o r)
      (tries_view s most from o r i) before a [] Unheard j l (once _ _ _ d) (once _ _ _ u) refl
  once _ _ _ (heard {from} {o} {r} {i} {j} {l} b c a y e d u) = on_heard from o r b c a y i j l e (once _ _ _ d) (once _ _ _ u)
  once _ _ _ (unheard {from} {o} {r} {i} {j} d) = on_unheard from o r i j (once _ _ _ d)
  once _ _ _ (none_asked {from} {o} {r} {j}) =
      loop_none ℕ (List ℕ) [] noting passes_cast j (SpreadsLoop s most from o r j) (SendsOne s most from o r)
      (spreads_view s most from o r j)
  once _ _ _ (unable_too {from} {o} {r} {i} {j} {l} {before} {noted} a y e d u) = on_spread from o r before noted a (Hears y) i j l e
      (ap (λ (z : Bool). if z then noted else (noted ++ a ∷ [])) e) (once _ _ _ d) (once _ _ _ u)
  once _ _ _ (silent_too {from} {o} {r} {i} {j} {l} {before} {noted} a d u) = on_spread from o r before noted a Unheard i j l refl refl
      (once _ _ _ d) (once _ _ _ u)
  once _ _ _ (answered {from} {o} {r} {i} {j} {l} b c n a y e f d u) = on_answered from o r b c n a y i j l e f (once _ _ _ d)
      (once _ _ _ u)
  once _ _ _ (nobody_has {from} {o} {r} {i} {j} d) = on_all from o r [] i j (once _ _ _ d)
  once _ _ _ (some_silent {from} {o} {r} {i} {j} n e d) = λ other l u.
      (let p = on_all from o r n i j (once _ _ _ d) other l u in (p.0 ∙ noted_reply s most r n e, p.1))
  once _ _ _ (no_part {from} {o} {a} {j}) =
      on_whole from o [] a a j j (loop_none Reference Answer a gathering passes_part j (GathersLoop s most from o a j)
      (TakesOne s most from o) (gathers_view s most from o a j))
  once _ _ _ (part_unheard {from} {o} {i} {j} {l} {rs} {a} {b} r d u) = on_part from o rs r a b Unheard i j l refl (once _ _ _ d)
      (once _ _ _ u)
  once _ _ _ (part_unavailable {from} {o} {i} {j} {l} {rs} {a} {b} r v d u) = on_part from o rs r a b
      (Hears (is_unavailable v)) i j l refl (once _ _ _ d) (once _ _ _ u)
  once _ _ _ (part_answered {from} {o} {i} {j} {l} {rs} {a} {b} r c d u) = on_part from o rs r a b (Hears (Answered c)) i j l refl
      (once _ _ _ d) (once _ _ _ u)
  once _ _ _ (part_breaks {from} {o} {i} {j} {l} {a} {b} before after r x e d u) = on_break from o before after r a b x i j l e
      (once _ _ _ d) (once _ _ _ u)

  outcome : (x : Act) (i j : Journal) → Claim x i j → SameOutcome s most x i j
  outcome (Serves k reply) i j c = c
  outcome (Follows from k reply end) i j c = c
  outcome (Sends from o r a h) i j c = c
  outcome (Tries from o r agents) i j c = λ l d. (c.0 [] l (refl, d)).1
  outcome (Takes from o r h) i j c = c
  outcome (Spreads from o r agents noted) i j c = c.0
  outcome (Casts from o r reply) i j c = c
  outcome (Gathers from o rs a whole) i j c = c.0
  outcome (Probes k r agents noted) i j c = c.0
  outcome (Updates k reply) i j c = c

pub acts_are_determined : ActsAreDetermined
acts_are_determined s most x i j d = outcome s most x i j (once s most x i j d)

-- ---- a request

-- by the fate of the user's message
abbrev AskedAs : Scene → ℕ → Journal → Reply → Fate → Type 0
AskedAs s most j y Lost = (y ≡ user_in_vain s) × (j ≡ with_line (user_line s) nothing_yet)
AskedAs s most j y NoReply =
    (y ≡ user_in_vain s) × ((reply : Reply) × Does s most (Serves (hand s.first s.message) reply) (with_line (user_line s) nothing_yet) j)
AskedAs s most j y Sent = Does s most (Serves (hand s.first s.message) y) (with_line (user_line s) nothing_yet) j

asked_as : (s : Scene) (most : ℕ) (j : Journal) (y : Reply) → IsRequest s most j y → AskedAs s most j y (user_line s).fate
asked_as s most _ _ (not_heard e) =
    subst (λ (f : Fate). AskedAs s most (with_line (user_line s) nothing_yet) (user_in_vain s) f) (sym e) (refl, refl)
asked_as s most _ _ (not_told {j} y e d) = subst (λ (f : Fate). AskedAs s most j (user_in_vain s) f) (sym e) (refl, (y, d))
asked_as s most _ _ (answers {j} y e d) = subst (λ (f : Fate). AskedAs s most j y f) (sym e) d

pub request_is_determined : RequestIsDetermined
request_is_determined s most _ j _ other (not_heard e) b = subst (λ (f : Fate). AskedAs s most j other f) e (asked_as s most j other b)
request_is_determined s most _ j _ other (not_told {j = i} y e d) b =
    let w = subst (λ (f : Fate). AskedAs s most j other f) e (asked_as s most j other b) in
    (w.0, (acts_are_determined s most (Serves (hand s.first s.message) y) (with_line (user_line s) nothing_yet) i d w.1.0 j w.1.1).1)
request_is_determined s most _ j _ other (answers {j = i} y e d) b =
    let w = subst (λ (f : Fate). AskedAs s most j other f) e (asked_as s most j other b) in
    acts_are_determined s most (Serves (hand s.first s.message) y) (with_line (user_line s) nothing_yet) i d other j w
