-- By one induction over all that is done: what holds of messages, and stays when one is passed on that doesn't come round and
-- has room in its trace, holds of each message that is sent.
use Rattle.std.proofs.Common.{◌≡◌, ℕ, ◌≤◌, ◌<◌, nat_le, true, false, List, [], ◌∷◌, ◌++◌, length, inl, inr, refl, sym, subst, arith, length-append, Option}
use Rattle.std.proofs.lemmas.Bool.{leb-false}
use Rattle.x5_model.specs.References.{Reference, Chained, TraceItem}
use Rattle.x5_model.specs.Answers.{Reply}
use Rattle.x5_model.proofs.Lists.{in_first}
use Rattle.x5_model_run.specs.Journal.{Line, Journal, item_of, same_item}
use Rattle.x5_model_run.specs.Chain.{Scene}
use Rattle.x5_model_serve.specs.Serving as serving
use Rattle.x5_model_serve.specs.Serving.{Hand, Arrives, next_line, user_line, nothing_yet, with_line, carried_for, IsRequest, not_heard, not_told, answers, Act, loops, is_long, done_before, stuck, nowhere, refers, goes, casts, reads, reads_copy, gives_parts, asks_parts, updates, not_done, does, probes_all, misses, taken, breaks, no_probe, clear, holds_back, spent, lost, dropped, sends, final, referral, wide_referral, unexplored, none_yet, in_vain_too, none_asked, unable_too, silent_too, answered, nobody_has, some_silent, no_part, part_unheard, part_unavailable, part_answered, part_breaks}
use Rattle.x5_model_traces.specs.Traces.{IsShort, HasOnce}
use Rattle.x5_model_traces.specs.Passing.{HasRoom, MayPass, EachMessage, GivenPassing, ToldPassing, DoesShort, DoesOnce}
use Rattle.x5_model_traces.proofs.Once.{distinct_behind, items_turned}

true_false : {X : Type 0} → true ≡ false → X
true_false e = cc

-- the message was looked at
room : {s : Scene} {k : Hand} {j : Journal} → Arrives s k j → HasRoom k
room v = record { unlooped = v.unlooped; short = v.short }

-- it stays when a message is passed on
abbrev pub Passes : (Chained → Type 0) → Type 0
Passes holds = (from : Option ℕ) (o : Hand) (r : Reference) → MayPass holds o → holds (carried_for from o r)

module _ (holds : Chained → Type 0) (passes : Passes holds) (s : Scene) (most : ℕ) where
  abbrev All : Journal → Type 0
  All j = EachMessage holds j

  one_line : (l : Line) (j : Journal) → holds l.message → All j → All (with_line l j)
  one_line l j w f x i = elim (in_first x l j.lines i) [
    | inl e ↦ subst (λ (y : Line). holds y.message) (sym e) w
    | inr k ↦ f x k
  ]

  one_more : (from : Option ℕ) (o : Hand) (r : Reference) (a : ℕ) (i : Journal) → MayPass holds o → All i
      → All (with_line (next_line s i from o r a) i)
  one_more from o r a i g q = one_line (next_line s i from o r a) i (passes from o r g) q

  comes : (x : Act) (i j : Journal) → serving.Does s most x i j → GivenPassing holds x → All i → ToldPassing x × All j
  comes _ _ _ (loops e) g q = (λ f. true_false f, q)
  comes _ _ _ (is_long e f) g q = (λ f. true_false f, q)
  comes _ _ _ (done_before e f t) g q = (λ f. true_false f, q)
  comes _ _ _ (serving.refused x e f t h) g q = (λ f. true_false f, q)
  comes _ _ _ (serving.unfit e f t h n) g q = (λ f. true_false f, q)
  comes _ _ _ (stuck v e) g q = (λ f. true_false f, q)
  comes _ _ _ (nowhere n v e) g q = (λ f. true_false f, q)
  comes _ _ _ (refers r v e f) g q = (λ n. room v, q)
  comes _ _ _ (goes r h v e f t d) g q = (λ n. room v, (comes _ _ _ d (room v, g) q).1)
  comes _ _ _ (casts r y v e f t d) g q = (λ n. room v, (comes _ _ _ d (room v, g) q).1)
  comes _ _ _ (reads c v e f t) g q = (λ n. room v, q)
  comes _ _ _ (reads_copy c v e f) g q = (λ n. room v, q)
  comes _ _ _ (gives_parts a v b f e) g q = (λ n. room v, q)
  comes _ _ _ (asks_parts a w v b f e d) g q = (λ n. room v, (comes _ _ _ d (room v, g) q).1)
  comes _ _ _ (updates c y v e f d) g q = (λ n. room v, (comes _ _ _ d (room v, g) q).1)
  comes _ _ _ (not_done x e) g q = (tt, q)
  comes _ _ _ (does mine e f) g q = (tt, q)
  comes _ _ _ (probes_all mine r e f d) g q = (tt, (comes _ _ _ d g q).1)
  comes _ _ _ (misses mine r a noted e f d) g q = (tt, (comes _ _ _ d g q).1)
  comes _ _ _ (taken mine r a b c n y e f t d u) g q = (tt, (comes _ _ _ u g (comes _ _ _ d g q).1).1)
  comes _ _ _ (breaks mine r a b c n x e f t h m d u) g q = (tt, (comes _ _ _ u g (comes _ _ _ d g q).1).1)
  comes _ _ _ no_probe g q = (tt, q)
  comes _ _ _ (clear a y e d u) g q = (tt, (comes _ _ _ u g (comes _ _ _ d g q).1).1)
  comes _ _ _ (serving.unsure a y e d u) g q = (tt, (comes _ _ _ u g (comes _ _ _ d g q).1).1)
  comes _ _ _ (serving.silent a d u) g q = (tt, (comes _ _ _ u g (comes _ _ _ d g q).1).1)
  comes _ _ _ (holds_back a e) g q = (tt, q)
  comes _ _ _ (spent a free e) g q = (tt, q)
  comes _ _ _ (lost {from} {o} {r} {j} a free e f) g q = (tt, one_more from o r a j g q)
  comes _ _ _ (dropped {from} {o} {r} {i} a y free e f d) g q =
      (tt, (comes _ _ _ d (passes from o r g) (one_more from o r a i g q)).1)
  comes _ _ _ (sends {from} {o} {r} {i} a y last free e f d u) g q =
      let x = comes _ _ _ d (passes from o r g) (one_more from o r a i g q) in
      (tt, (comes _ _ _ u (passes from o r g, x.0) x.1).1)
  comes _ _ _ (final y e) g q = (tt, q)
  comes _ _ _ (referral r h e d) g q = (tt, (comes _ _ _ d (g.1 refl, g.0) q).1)
  comes _ _ _ (wide_referral r y e d) g q = (tt, (comes _ _ _ d (g.1 refl, g.0) q).1)
  comes _ _ _ (unexplored a w e d) g q = (tt, (comes _ _ _ d (g.1 e, g.0) q).1)
  comes _ _ _ none_yet g q = (tt, q)
  comes _ _ _ (in_vain_too a d u) g q = (tt, (comes _ _ _ u g (comes _ _ _ d g q).1).1)
  comes _ _ _ (serving.heard b c a y e d u) g q = (tt, (comes _ _ _ u g (comes _ _ _ d g q).1).1)
  comes _ _ _ (serving.unheard d) g q = (tt, (comes _ _ _ d g q).1)
  comes _ _ _ none_asked g q = (tt, q)
  comes _ _ _ (unable_too a y e d u) g q = (tt, (comes _ _ _ u g (comes _ _ _ d g q).1).1)
  comes _ _ _ (silent_too a d u) g q = (tt, (comes _ _ _ u g (comes _ _ _ d g q).1).1)
  comes _ _ _ (answered b c n a y e f d u) g q = (tt, (comes _ _ _ u g (comes _ _ _ d g q).1).1)
  comes _ _ _ (nobody_has d) g q = (tt, (comes _ _ _ d g q).1)
  comes _ _ _ (some_silent n e d) g q = (tt, (comes _ _ _ d g q).1)
  comes _ _ _ no_part g q = (tt, q)
  comes _ _ _ (part_unheard r d u) g q = (tt, (comes _ _ _ u g (comes _ _ _ d g q).1).1)
  comes _ _ _ (part_unavailable r z d u) g q = (tt, (comes _ _ _ u g (comes _ _ _ d g q).1).1)
  comes _ _ _ (part_answered r c d u) g q = (tt, (comes _ _ _ u g (comes _ _ _ d g q).1).1)
  comes _ _ _ (part_breaks b c r x e d u) g q = (tt, (comes _ _ _ u g (comes _ _ _ d g q).1).1)

  -- ---- a request
  begun : holds s.message → All (with_line (user_line s) nothing_yet)
  begun w = one_line (user_line s) nothing_yet w (λ l i. elim i [ ])

  pub request_passes : (j : Journal) (y : Reply) → IsRequest s most j y → holds s.message → All j
  request_passes _ _ (not_heard e) w = begun w
  request_passes _ _ (not_told y e d) w = (comes _ _ _ d w (begun w)).1
  request_passes _ _ (answers y e d) w = (comes _ _ _ d w (begun w)).1

-- ---- what stays

less : (n : ℕ) → nat_le 128 n ≡ false → n < 128
less n e = leb-false 128 n e

longer : (xs : List TraceItem) (x : TraceItem) → length xs < 128 → length (xs ++ x ∷ []) ≤ 128
longer xs x h = omega (arith, h, length-append xs (x ∷ []))

pub short_passes : Passes IsShort
short_passes from o r g =
    longer o.message.trace (item_of o.receiver o.message) (less (length o.message.trace) g.0.short)

pub once_passes : Passes HasOnce
once_passes from o r g =
    distinct_behind same_item items_turned o.message.trace (item_of o.receiver o.message) g.1 g.0.unlooped

pub does_short : DoesShort
does_short s most x i j d g q = comes IsShort short_passes s most x i j d g q

pub does_once : DoesOnce
does_once s most x i j d g q = comes HasOnce once_passes s most x i j d g q
