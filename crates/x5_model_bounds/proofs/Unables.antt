-- Who says that it is unable to proceed has sent nothing, and nobody passes that reply on: by one induction over all
-- that is done.
use Rattle.std.proofs.Common.{◌≡◌, ℕ, Bool, true, false, cond, inl, inr, List, [], ◌∷◌, ◌++◌, refl, sym, subst, ◌∙◌, Some, None}
use Rattle.x5_model.specs.Words.{is_empty}
use Rattle.x5_model.specs.Members.{In, here}
use Rattle.x5_model.specs.References.{Progress, Start, Next, Done, Reference, Chained}
use Rattle.x5_model.specs.Answers.{ServiceProblem, Reply, Answered, Failed, Referred}
use Rattle.x5_model.specs.Problems.{unable_to_proceed, invalid_reference, loop_detected}
use Rattle.x5_model.proofs.Lists.{in_right}
use Rattle.x5_model_run.specs.Journal.{Journal, is_done, is_wide, item_of}
use Rattle.x5_model_run.specs.Holdings.{Holdings, ground_at}
use Rattle.x5_model_run.specs.Chain.{Scene}
use Rattle.x5_model_serve.specs.Finding.{Below, Stuck, completed, found_by, find}
use Rattle.x5_model_serve.specs.Answering.{own_source, copy_source, to_follow, is_unavailable, in_vain}
use Rattle.x5_model_serve.specs.Serving.{Hand, hand, carried_for, is_looped, limit_reply, held_back, asked_by, stuck_problem, next_line, holds_now, parts_refs, gathered_reply, heard_or, is_final, Heard, Unheard, Hears, Gathered, Whole, Broken, Act, Does, loops, is_long, done_before, refused, unfit, stuck, nowhere, refers, goes, casts, reads, reads_copy, gives_parts, asks_parts, updates, not_done, does, probes_all, misses, taken, breaks, no_probe, clear, unsure, silent, holds_back, spent, lost, dropped, sends, final, referral, wide_referral, unexplored, none_yet, in_vain_too, heard, unheard, none_asked, unable_too, silent_too, answered, nobody_has, some_silent, no_part, part_unheard, part_unavailable, part_answered, part_breaks}
use Rattle.x5_model_serve.specs.Following.{IsFinalHeard}
use Rattle.x5_model_serve.proofs.Finals.{leaves}
use Rattle.x5_model_bounds.specs.Unable.{IsUnable, AllDone, LeavesParts, HeardUnable, NeverBroken, Unables, RepliesAble, UnableSendsNothing}
use Rattle.x5_model_bounds.proofs.AsFar.{stuck_short}
use Rattle.x5_model_bounds.proofs.Parting.{rest_part, local_whole, left_parts, told_final}

pub false_true : false ≡ true → ⊥
false_true e = cc

-- a user tells himself no such thing
held_able : (k : Hand) → IsUnable (held_back k) → ⊥
held_able k = by (is_looped k)
  where
    by : (b : Bool) → IsUnable (cond b (Failed (ServiceProblem loop_detected None (Some (item_of k.receiver k.message)))) limit_reply) → ⊥
    by true u = false_true u
    by false u = false_true u

-- ---- stuck

stuck_wide : (k : Hand) → IsUnable (Failed (ServiceProblem (stuck_problem k) (Some (asked_by k)) None)) → is_wide k.message.kind ≡ true
stuck_wide k u = go (is_wide k.message.kind) u
  where
    problem : Bool → ℕ
    problem true = unable_to_proceed
    problem false = invalid_reference

    go : (b : Bool) → IsUnable (Failed (ServiceProblem (problem b) (Some (asked_by k)) None)) → b ≡ true
    go true v = refl
    go false v = absurd (false_true v)

stuck_early : (h : Holdings) (m : Chained) → find h m ≡ Stuck → is_wide m.kind ≡ true → is_done m.progress ≡ false
stuck_early h m e w = go m.progress e
  where
    go : (x : Progress) → found_by h m x ≡ Stuck → is_done x ≡ false
    go Start f = refl
    go (Next k) f = refl
    go Done f = (let g : Below ≡ Stuck = subst (λ b. cond b Below (completed h m) ≡ Stuck) w f in cc)

-- ---- replies

empty_in : (xs : List Reference) → is_empty xs ≡ true → AllDone xs
empty_in [] e r i = elim i [ ]
empty_in (x ∷ xs) e r i = absurd (false_true e)

pub final_leaves : (y : Reply) → is_final y ≡ true → LeavesParts y
final_leaves (Answered a) e = empty_in (to_follow a) e
final_leaves (Failed x) e = tt
final_leaves (Referred r) e = tt

heard_leaves : (q : Reference) (h : Heard) → IsFinalHeard h → LeavesParts (heard_or (is_unavailable q) h)
heard_leaves q Unheard e = tt
heard_leaves q (Hears y) e = final_leaves y e

heard_able : (q r : Reference) (h : Heard) → is_wide r.kind ≡ false → HeardUnable r h → IsUnable (heard_or (is_unavailable q) h) → ⊥
heard_able q r Unheard w f u = false_true u
heard_able q r (Hears y) w f u = false_true (sym w ∙ (f u).0)

whole_able : (k : Hand) (rs : List Reference) (whole : Gathered) → AllDone rs → NeverBroken rs whole → IsUnable (gathered_reply k whole) → ⊥
whole_able k rs (Whole a) d f u = false_true u
whole_able k rs (Broken y) d f u = f d u

parts_done : (s : Scene) (i : Journal) (k : Hand) → AllDone (parts_refs s i k)
parts_done s i k r j = (rest_part (holds_now s i k) k.message r j).0

left_done : (xs rs : List Reference) → xs ≡ rs → AllDone rs → AllDone xs
left_done xs rs e d r i = d r (subst (λ (ys : List Reference). In r ys) e i)

middle : (before after : List Reference) (r : Reference) → In r (before ++ r ∷ after)
middle before after r = in_right r before (r ∷ after) here

module _ (able : RepliesAble) (s : Scene) (most : ℕ) where
  pub unables : (x : Act) (i j : Journal) → Does s most x i j → Unables s x i j
  unables _ _ _ (loops e) = (tt, λ u. absurd (false_true u))
  unables _ _ _ (is_long e f) = (tt, λ u. absurd (false_true u))
  unables _ _ _ (done_before e f g) = (λ r i. elim i [ ], λ u. absurd (false_true u))
  unables _ _ _ (refused {k} x e f g h) = (tt, λ u. absurd (able.faults k.message.request.body x h u))
  unables _ _ _ (unfit e f g h i) = (tt, λ u. absurd (false_true u))
  unables _ _ _ (stuck {k} {j} a e) = (tt, λ u. (refl, stuck_wide k u, stuck_early (holds_now s j k) k.message e (stuck_wide k u), stuck_short s k j e (stuck_wide k u)))
  unables _ _ _ (nowhere n a e) = (tt, λ u. absurd (false_true u))
  unables _ _ _ (refers r a e f) = (tt, λ u. absurd (false_true u))
  unables _ _ _ (goes r h a e f g d) = (heard_leaves (in_vain r) h (leaves s most _ _ _ d), λ u. absurd (heard_able (in_vain r) r h g (unables _ _ _ d) u))
  unables _ _ _ (casts r y a e f g d) = (final_leaves y (leaves s most _ _ _ d), λ u. absurd (unables _ _ _ d u))
  unables _ _ _ (reads {k} c a e f g) = (final_leaves _ (told_final (own_source k.receiver c ∷ []) _), λ u. absurd (able.own k.receiver k.message c u))
  unables _ _ _ (reads_copy {k} c a e f) = (final_leaves _ (told_final (copy_source k.receiver c ∷ []) _), λ u. absurd (able.copy k.receiver k.message c u))
  unables _ _ _ (gives_parts {k} {j} y a e f g) = (
    elim (left_parts k.message.request.controls.size (parts_refs s j k) y (local_whole (holds_now s j k) k.message y g) (λ r i. (rest_part (holds_now s j k) k.message r i).1)) [
      | inl q ↦ left_done _ (parts_refs s j k) q (parts_done s j k)
      | inr q ↦ empty_in _ q
    ],
    λ u. absurd (false_true u),
  )
  unables _ _ _ (asks_parts {k} {i} y w a e f g d) = (
    elim (leaves s most _ _ _ (asks_parts {k = k} {i = i} y w a e f g d)) [
      | inl q ↦ final_leaves _ q
      | inr q ↦ absurd (false_true (sym f ∙ q.0))
    ],
    λ u. absurd (whole_able k (parts_refs s i k) w (parts_done s i k) (unables _ _ _ d) u),
  )
  unables _ _ _ (updates c y a e f d) = (final_leaves y (leaves s most _ _ _ d), λ u. absurd (unables _ _ _ d u))
  unables _ _ _ (not_done {k} {j} x e) = λ u. able.judged (ground_at k.message.request (holds_now s j k)) k.message.request.body x e u
  unables _ _ _ (does mine e f) = λ u. false_true u
  unables _ _ _ (probes_all mine r e f d) = λ u. false_true u
  unables _ _ _ (misses mine r a noted e f d) = λ u. false_true u
  unables _ _ _ (taken mine r a b c n y e f g d u) = λ v. false_true v
  unables _ _ _ (breaks mine r a b c n y e f g p q d u) = λ v. false_true (sym p ∙ v)
  unables _ _ _ no_probe = tt
  unables _ _ _ (clear a y e d u) = tt
  unables _ _ _ (unsure a y e d u) = tt
  unables _ _ _ (silent a d u) = tt
  unables _ _ _ (holds_back {from} {o} {r} a e) = λ u. absurd (held_able (hand a (carried_for from o r)) u)
  unables _ _ _ (spent a hb e) = λ u. absurd (false_true u)
  unables _ _ _ (lost a hb e f) = tt
  unables _ _ _ (dropped a y hb e f d) = tt
  unables _ _ _ (sends {from} {o} {r} {i} {j} {l} a y z hb e f d u) =
      let first = unables _ _ _ d in
      let then = unables _ _ _ u in
      λ v.
      let same = then first.0 v in
      let mine = first.1 (subst IsUnable (sym same.0) v) in
      (next_line s i from o r a, same.1 ∙ mine.0, (mine.1, mine.2), mine.3)
  unables _ _ _ (final y e) = λ p u. (refl, refl)
  unables _ _ _ (referral r h e d) = λ p u. absurd (heard_able (in_vain r) r h e (unables _ _ _ d) u)
  unables _ _ _ (wide_referral r y e d) = λ p u. absurd (unables _ _ _ d u)
  unables _ _ _ (unexplored {k = k} a w e d) = λ p u. absurd (whole_able k (to_follow a) w p (unables _ _ _ d) u)
  unables _ _ _ none_yet = tt
  unables _ _ _ (in_vain_too a d u) = tt
  unables _ _ _ (heard b c a y e d u) = (let last = unables _ _ _ u in λ v. (last v).2)
  unables _ _ _ (unheard d) = tt
  unables _ _ _ none_asked = tt
  unables _ _ _ (unable_too a y e d u) = tt
  unables _ _ _ (silent_too a d u) = tt
  unables _ _ _ (answered b c n a y e f d u) = λ v. false_true (sym f ∙ v)
  unables _ _ _ (nobody_has d) = λ u. false_true u
  unables _ _ _ (some_silent n e d) = λ u. false_true u
  unables _ _ _ no_part = tt
  unables _ _ _ (part_unheard r d u) = tt
  unables _ _ _ (part_unavailable r v d u) = tt
  unables _ _ _ (part_answered r c d u) = tt
  unables _ _ _ (part_breaks b c r x e d u) = (let last = unables _ _ _ u in λ p v. false_true (sym (last v).1 ∙ p r (middle b c r)))

pub unable_sends_nothing : RepliesAble → UnableSendsNothing
unable_sends_nothing able = unables able
