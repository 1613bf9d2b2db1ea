-- Where it is answered that somebody wasn't heard, that nobody could go on, or that a limit ended it, nothing was accepted
-- meanwhile, or a reply was lost: by one induction over all that is done. Who leaves something to be followed sent nothing, and a list or search
-- accepts nothing.
use Rattle.std.proofs.Common.{◌≡◌, ℕ, Bool, true, false, not, ◌||◌, ◌⊎◌, cond, inl, inr, List, [], ◌∷◌, refl, sym, ap, subst, ◌∙◌, Option, Some, None}
use Rattle.std.specs.List.{list_any}
use Rattle.std.specs.Option.{is_some, is_none}
use Rattle.x5_model.specs.Members.{In, here}
use Rattle.x5_model.specs.Keys.{Key, is_root}
use Rattle.x5_model.specs.Values.{key_of}
use Rattle.x5_model.specs.Entries.{Named}
use Rattle.x5_model.specs.Requests.{Subset}
use Rattle.x5_model.specs.References.{Progress, Start, Next, Done, Reference, Chained}
use Rattle.x5_model.specs.Answers.{Answer, Reply, Answered}
use Rattle.x5_model.specs.Problems.{unavailable, unable_to_proceed, administrative_limit_exceeded}
use Rattle.x5_model.proofs.Lists.{both_true, or_left, or_right, not_false, in_right, any_in, of_any}
use Rattle.x5_model_tree.specs.Tree.{lowest}
use Rattle.x5_model_tree.specs.Ask.{is_update, Told, Shows, Compares, Lists, Finds, Changes, Refuses}
use Rattle.x5_model.specs.Answers.{Source}
use Rattle.x5_model_run.specs.Journal.{Line, Journal, same_name, is_done}
use Rattle.x5_model_run.specs.Holdings.{Held, Copy, Holdings, held_at, copy_at, known_pin, holds_within}
use Rattle.x5_model_run.specs.Needs.{subset_of, superior_needs, multicast_needs, supplier_needs, specific_needs, copy_answers}
use Rattle.x5_model_run.specs.Chain.{Scene}
use Rattle.x5_model_run.specs.Right.{is_noreply, heard_whole}
use Rattle.x5_model_run.specs.Placed.{fits, is_query_below}
use Rattle.x5_model_theory.proofs.Following.{query_of}
use Rattle.x5_model_serve.specs.Finding as finding
use Rattle.x5_model_serve.specs.Finding.{Found, by_first, in_own, in_copy, at_pin, resolved, found_by, find}
use Rattle.x5_model_serve.specs.Answering.{is_service, reply_from, reply_in_copy, is_unavailable, in_vain, copy_source}
use Rattle.x5_model_serve.specs.Claims.{Grows}
use Rattle.x5_model_serve.specs.Serving.{Hand, Heard, Unheard, Hears, Act, Takes, Does, holds_now, begins_parts, heard_or, is_final, with_line, next_line, carried_for, loops, is_long, done_before, refused, unfit, stuck, nowhere, refers, goes, casts, reads, reads_copy, gives_parts, asks_parts, updates, not_done, does, probes_all, misses, taken, breaks, no_probe, clear, unsure, silent, holds_back, spent, lost, dropped, sends, final, referral, wide_referral, unexplored, none_yet, in_vain_too, heard, unheard, none_asked, unable_too, silent_too, answered, nobody_has, some_silent, no_part, part_unheard, part_unavailable, part_answered, part_breaks}
use Rattle.x5_model_serve.proofs.Finals.{idle_is_followed}
use Rattle.x5_model_find.proofs.Needing.{false_true}
use Rattle.x5_model_joins.proofs.Following.{no_update_below}
use Rattle.x5_model_verdicts.proofs.Lines.{grown}
use Rattle.x5_model_passing.specs.Acceptance.{IsSilent, is_off, SilentWhereOff, OffIsSilent}
use Rattle.x5_model_passing.proofs.Queries.{still}

-- ---- one after the other

loss_stays : (i j : Journal) → Grows i j → heard_whole i.lines ≡ false → heard_whole j.lines ≡ false
loss_stays i j g h =
    let w = of_any (λ (l : Line). is_noreply l.fate) i.lines (not_false (list_any (λ (l : Line). is_noreply l.fate) i.lines) h) in
    ap not (any_in (λ (l : Line). is_noreply l.fate) w.0 j.lines
    (subst (λ (xs : List Line). In w.0 xs) (sym g.1) (in_right w.0 g.0 i.lines w.1)) w.2)

both : (i j l : Journal) → Grows j l → IsSilent i j → IsSilent j l → IsSilent i l
both i j l g a (inr f) = inr f
both i j l g (inl e) (inl f) = inl (f ∙ e)
both i j l g (inr e) (inl f) = inr (loss_stays j l g e)

-- ---- whose base is found is a query

abbrev is_below : Found → Bool
is_below (finding.Here c) = false
is_below (finding.CopyHere c) = false
is_below finding.Root = false
is_below finding.Below = true
is_below (finding.Onward r) = false
is_below (finding.Nowhere n) = false
is_below finding.Stuck = false

first_above : (rs : List Reference) (other : Found) → is_below other ≡ false → is_below (by_first rs other) ≡ false
first_above [] other e = e
first_above (r ∷ rs) other e = refl

cond_above : (b : Bool) (x y : Found) → is_below x ≡ false → is_below y ≡ false → is_below (cond b x y) ≡ false
cond_above true x y e f = e
cond_above false x y e f = f

module _ (h : Holdings) (m : Chained) where
  own_above : (c : Held) → is_below (in_own h m c) ≡ false
  own_above c = by (lowest c.entries (key_of m.target)) refl
    where
      by : (o : Option Named) → lowest c.entries (key_of m.target) ≡ o → is_below (in_own h m c) ≡ false
      by None e = rw e refl
      by (Some x) e = rw e (cond_above (same_name x.name m.target) (finding.Here c)
          (by_first (multicast_needs h m c) (finding.Nowhere x.name)) refl
          (first_above (multicast_needs h m c) (finding.Nowhere x.name) refl))

  copy_above : (c : Copy) → is_below (in_copy h m c) ≡ false
  copy_above c = cond_above (copy_answers h m c) (finding.CopyHere c) (by_first (supplier_needs h m c) finding.Stuck) refl
      (first_above (supplier_needs h m c) finding.Stuck refl)

  pin_above : (o : Option Key) → is_below (at_pin h m o) ≡ false
  pin_above None = first_above (superior_needs h m) (cond (is_root (key_of m.target)) finding.Root (finding.Nowhere []))
      (cond_above (is_root (key_of m.target)) finding.Root (finding.Nowhere []) refl refl)
  pin_above (Some q) = by_own (held_at h.own q) refl
    where
      by_copy : held_at h.own q ≡ None → (o : Option Copy) → copy_at h q ≡ o → is_below (at_pin h m (Some q)) ≡ false
      by_copy e None f = rw (e, f) (first_above (specific_needs h m q) finding.Stuck refl)
      by_copy e (Some c) f = rw (e, f) (copy_above c)

      by_own : (o : Option Held) → held_at h.own q ≡ o → is_below (at_pin h m (Some q)) ≡ false
      by_own None e = by_copy e (copy_at h q) refl
      by_own (Some c) e = rw e (own_above c)

  below_done : is_below (find h m) ≡ true → is_done m.progress ≡ true
  below_done e = by m.progress refl
    where
      off : (f : Found) → find h m ≡ f → is_below f ≡ false → is_done m.progress ≡ true
      off f g z = absurd (false_true (sym z ∙ ap is_below (sym g) ∙ e))

      next : (n : ℕ) → m.progress ≡ Next n → (b : Bool) → holds_within h (key_of m.target) n ≡ b → is_done m.progress ≡ true
      next n q true w = off (resolved h m) (rw (q, w) refl) (pin_above (known_pin m.request h (key_of m.target)))
      next n q false w = off finding.Stuck (rw (q, w) refl) refl

      by : (y : Progress) → m.progress ≡ y → is_done m.progress ≡ true
      by Start q = off (resolved h m) (rw q refl) (pin_above (known_pin m.request h (key_of m.target)))
      by (Next n) q = next n q (holds_within h (key_of m.target) n) refl
      by Done q = ap is_done q

begun_query : (k : Hand) (h : Holdings) → fits k.message ≡ true → begins_parts k (find h k.message) ≡ true
    → is_update k.message.request.body ≡ false
begun_query k h fit e = no_update_below k.message.request.body (by (find h k.message) refl e)
  where
    some : not (is_none (subset_of k.message)) ≡ true → is_query_below k.message.request.body ≡ true
    some f = query_of k.message (go (subset_of k.message) f)
      where
        go : (o : Option Subset) → not (is_none o) ≡ true → is_some o ≡ true
        go None g = g
        go (Some x) g = refl

    below : (b c : Bool) → (not b || c) ≡ true → b ≡ true → c ≡ true
    below true c f g = f
    below false c f g = absurd (false_true g)

    by : (f : Found) → find h k.message ≡ f → begins_parts k f ≡ true → is_query_below k.message.request.body ≡ true
    by (finding.Here c) q g = some g
    by (finding.CopyHere c) q g = some g
    by finding.Root q g = some g
    by finding.Below q g = below (is_done k.message.progress) (is_query_below k.message.request.body)
        (both_true _ (not (is_done k.message.progress) || is_query_below k.message.request.body) fit).1
        (below_done h k.message (ap is_below q))
    by (finding.Onward r) q g = absurd (false_true g)
    by (finding.Nowhere n) q g = absurd (false_true g)
    by finding.Stuck q g = absurd (false_true g)

-- ---- replies

never_left : {A : Type 0} {b : Bool} → b ≡ true → b ≡ false → A
never_left e f = absurd (false_true (sym f ∙ e))

from_final : (sources : List Source) (t : Told) → is_final (reply_from sources t) ≡ true
from_final [] (Shows info) = refl
from_final (x ∷ xs) (Shows info) = refl
from_final [] (Compares equal copy) = refl
from_final (x ∷ xs) (Compares equal copy) = refl
from_final sources (Lists subs cut) = refl
from_final sources (Finds infos cut) = refl
from_final sources Changes = refl
from_final sources (Refuses x) = refl

off_unable : (y : Reply) → is_service unable_to_proceed y ≡ true → is_off y ≡ true
off_unable y e = or_right (is_service unavailable y) _ (or_right (is_service administrative_limit_exceeded y) _ e)

-- who may chain leaves nothing
left_idle : {b c : Bool} {X : Type 0} → (b ≡ true) ⊎ ((c ≡ true) × X) → c ≡ false → b ≡ true
left_idle (inl e) f = e
left_idle (inr w) f = absurd (false_true (sym f ∙ w.0))

module _ (s : Scene) (most : ℕ) where
  heard_off : (i j : Journal) (other : Reply) (h : Heard) (o : Option ℕ) (k : Hand) (r : Reference)
      → SilentWhereOff (Takes o k r h) i j → is_off (heard_or other h) ≡ true → IsSilent i j
  heard_off i j other Unheard o k r t e = t
  heard_off i j other (Hears y) o k r t e = t e

  pub quiet : (x : Act) (i j : Journal) → Does s most x i j → SilentWhereOff x i j
  quiet _ _ _ (loops e) = (λ f. inl refl, λ a q f. never_left refl f)
  quiet _ _ _ (is_long e f) = (λ g. inl refl, λ a q g. never_left refl g)
  quiet _ _ _ (done_before e f g) = (λ h. inl refl, λ a q h. never_left refl h)
  quiet _ _ _ (refused x e f g h) = (λ u. inl refl, λ a q u. never_left refl u)
  quiet _ _ _ (unfit e f g h i) = (λ u. inl refl, λ a q u. never_left refl u)
  quiet _ _ _ (stuck a e) = (λ u. inl refl, λ b q u. never_left refl u)
  quiet _ _ _ (nowhere n a e) = (λ u. inl refl, λ b q u. never_left refl u)
  quiet _ _ _ (refers r a e f) = (λ u. inl refl, λ b q u. cc)
  quiet _ _ _ (goes {k} {i} {j} r h a e f g d) = (
    heard_off i j (is_unavailable (in_vain r)) h (Some k.receiver) k r (quiet _ _ _ d),
    λ b q u. never_left (left_idle (idle_is_followed s most _ i j (goes r h a e f g d)) f) u,
  )
  quiet _ _ _ (casts {k} {i} {j} r y a e f g d) = (
    quiet _ _ _ d,
    λ b q u. never_left (left_idle (idle_is_followed s most _ i j (casts r y a e f g d)) f) u,
  )
  quiet _ _ _ (reads c a e f g) = (λ u. inl refl, λ b q u. f)
  quiet _ _ _ (reads_copy {k} c a e f) = (
    λ u. inl refl,
    λ b q u. (let z : is_final (reply_in_copy k.receiver k.message c) ≡ true =
        from_final (copy_source k.receiver c ∷ []) _ in never_left z u),
  )
  quiet _ _ _ (gives_parts {k} {j} y a e f g) = (λ u. inl refl, λ b q u. begun_query k (holds_now s j k) a.fit e)
  quiet _ _ _ (asks_parts {k} {i} {j} y w a e f g d) = (
    λ u. inl (still s most _ i j d (begun_query k (holds_now s i k) a.fit e)),
    λ b q u. begun_query k (holds_now s i k) a.fit e,
  )
  quiet _ _ _ (updates c y a e f d) = (quiet _ _ _ d, λ b q u. never_left (idle_is_followed s most _ _ _ d) u)
  quiet _ _ _ (not_done x e) = λ u. inl refl
  quiet _ _ _ (does mine e f) = λ u. cc
  quiet _ _ _ (probes_all mine r e f d) = λ u. cc
  quiet _ _ _ (misses mine r a noted e f d) = λ u. quiet _ _ _ d
  quiet _ _ _ (taken mine r a b c n y e f g d u) = λ v. cc
  quiet _ _ _ (breaks {k} {i} {j} {l} mine r a b c n y e f g p q d u) = λ v. both i j l (grown s most _ _ _ u) (quiet _ _ _ d)
      (quiet _ _ _ u v)
  quiet _ _ _ no_probe = inl refl
  quiet _ _ _ (clear {k} {r} {i} {j} {l} a y e d u) = both i j l (grown s most _ _ _ u) (quiet _ _ _ d)
      (quiet _ _ _ u (off_unable y e))
  quiet _ _ _ (unsure {k} {r} {i} {j} {l} a y e d u) = both i j l (grown s most _ _ _ u) (quiet _ _ _ d)
      (quiet _ _ _ u (or_left (is_service unavailable y) _ e))
  quiet _ _ _ (silent {k} {r} {i} {j} {l} a d u) = both i j l (grown s most _ _ _ u) (quiet _ _ _ d) (quiet _ _ _ u)
  quiet _ _ _ (holds_back a e) = λ u. inl refl
  quiet _ _ _ (spent a hb e) = λ u. inl refl
  quiet _ _ _ (lost a hb e f) = inl refl
  quiet _ _ _ (dropped {from} {o} {r} {i} {j} a y hb e f d) =
      let g = grown s most _ _ _ d in
      inr (ap not (any_in (λ (l : Line). is_noreply l.fate) (next_line s i from o r a) j.lines
      (subst (λ (xs : List Line). In (next_line s i from o r a) xs) (sym g.1)
      (in_right (next_line s i from o r a) g.0 (next_line s i from o r a ∷ i.lines) here)) (ap is_noreply f)))
  quiet _ _ _ (sends {from} {o} {r} {i} {j} {l} a y z hb e f d u) = by (is_final y) refl (quiet _ _ _ d) (quiet _ _ _ u)
    where
      by : (b : Bool) → is_final y ≡ b
          → (is_off y ≡ true → IsSilent (with_line (next_line s i from o r a) i) j)
          × ((c : Answer) → y ≡ Answered c → is_final y ≡ false → is_update (carried_for from o r).request.body ≡ false)
          → (is_final y ≡ true → (z ≡ y) × (l ≡ j))
          × (((c : Answer) → y ≡ Answered c → is_final y ≡ false → is_update (carried_for from o r).request.body ≡ false)
          → is_off z ≡ true → IsSilent j l)
          → is_off z ≡ true → IsSilent i l
      by true q v w g =
          let same = w.0 q in
          subst (λ (n : Journal). IsSilent i n) (sym same.1) (elim (v.0 (ap is_off (sym same.0) ∙ g)) [ inl n ↦ inl n | inr n ↦ inr n ])
      by false q v w g =
          elim (idle_is_followed s most _ _ _ d) [
            | inl n ↦ absurd (false_true (sym q ∙ n))
            | inr n ↦ elim (w.1 v.1 g) [
              | inl c ↦ inl (c ∙ ap (λ (t : Journal). t.accepted) n.1)
              | inr c ↦ inr c
            ]
          ]
  quiet _ _ _ (final y e) = (λ f. (refl, refl), λ left f. inl refl)
  quiet _ _ _ (referral {from} {k} {i} {j} r h e d) =
      (λ f. absurd (false_true f), λ left f. heard_off i j (is_unavailable (in_vain r)) h from k r (quiet _ _ _ d) f)
  quiet _ _ _ (wide_referral r y e d) = (λ f. absurd (false_true f), λ left f. quiet _ _ _ d f)
  quiet _ _ _ (unexplored {from} {k} {i} {j} a w e d) =
      (λ f. absurd (false_true (sym e ∙ f)), λ left f. inl (still s most _ i j d (left a refl e)))
  quiet _ _ _ none_yet = inl refl
  quiet _ _ _ (in_vain_too {from} {o} {r} {i} {j} {l} a d u) = both i j l (grown s most _ _ _ u) (quiet _ _ _ d) (quiet _ _ _ u)
  quiet _ _ _ (heard {from} {o} {r} {i} {j} {l} b c a y e d u) = λ f. both i j l (grown s most _ _ _ u) (quiet _ _ _ d) (quiet _ _ _ u f)
  quiet _ _ _ (unheard d) = quiet _ _ _ d
  quiet _ _ _ none_asked = inl refl
  quiet _ _ _ (unable_too {from} {o} {r} {i} {j} {l} a y e d u) = both i j l (grown s most _ _ _ u) (quiet _ _ _ d)
      (quiet _ _ _ u (off_unable y e))
  quiet _ _ _ (silent_too {from} {o} {r} {i} {j} {l} a d u) = both i j l (grown s most _ _ _ u) (quiet _ _ _ d) (quiet _ _ _ u)
  quiet _ _ _ (answered {from} {o} {r} {i} {j} {l} b c n a y e f d u) = λ g. both i j l (grown s most _ _ _ u) (quiet _ _ _ d)
      (quiet _ _ _ u g)
  quiet _ _ _ (nobody_has d) = λ f. quiet _ _ _ d
  quiet _ _ _ (some_silent n e d) = λ f. quiet _ _ _ d
  quiet _ _ _ no_part = tt
  quiet _ _ _ (part_unheard r d u) = tt
  quiet _ _ _ (part_unavailable r v d u) = tt
  quiet _ _ _ (part_answered r c d u) = tt
  quiet _ _ _ (part_breaks b c r x e d u) = tt

pub off_is_silent : OffIsSilent
off_is_silent s most x i j d = quiet s most x i j d
