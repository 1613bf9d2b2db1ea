-- A consumer sends its copy; and the steps of a log later than a moment are as many as the changes later than it, since none that
-- the log doesn't have any more is.
use Rattle.std.proofs.Common.{◌≡◌, ℕ, zero, suc, ◌+◌, ◌<◌, ◌≤◌, Bool, true, false, cond, if◌then◌else◌, nat_lt, nat_le, List, [], ◌∷◌, length, map, take, drop, reverse, refl, sym, ap, ◌∙◌, arith, Option, Result, Ok, Err}
use Rattle.std.specs.Prelude.{slice_index}
use Rattle.std.proofs.lemmas.List.{length-append, length-map, take-append-drop}
use Rattle.std.proofs.lemmas.List.Elements.{filter-append}
use Rattle.std.proofs.lemmas.Grind.{reverse_onto}
use Rattle.std.specs.List.{filter}
use Rattle.x5_model.proofs.Lists.{both_true}
use Rattle.x5_model_run.specs.Refresh.{Changes, base_of, full_update_required}
use Rattle.x5_ops.specs.declared.knowledge.Step.{Step}
use Rattle.x5_ops.specs.KnowledgeViews.{specific_view, nssr_view}
use Rattle.x5_holdings.specs.State.{Kept, shadow_view}
use Rattle.x5_holdings.specs.declared.log.Logged.{Logged}
use Rattle.x5_supply.specs.Supplied.{content_of_copy, nssr, reference, steps_later}
use Rattle.x5_supply.specs.Copying.{content_view, CopySends, falls, StepsAreChanges}
use Rattle.x5_supply.proofs.Copying.{filter_seen, map_seen}

pub copy_sends : CopySends
copy_sends prefix d c m e =
    (λ i. record {
      prefix = prefix;
      entries = (content_view prefix (content_of_copy c)).entries;
      subordinate = map_seen reference specific_view c.subordinate i;
      nssrs = map_seen nssr nssr_view c.nssrs i;
    })
    ∙ sym (ap (λ (r : Option (Kept × ℕ)). record (shadow_view (record { prefix = d.prefix; supplier = d.supplier; refreshed = r })) { prefix = prefix }) e)

-- ---- counting

module _ (m : ℕ) where
  abbrev later : ℕ → Bool
  later x = nat_lt m x

  count_one : (x : ℕ) (xs : List ℕ) → length (filter later (x ∷ xs)) ≡ length (filter later xs) + length (filter later (x ∷ []))
  count_one x xs = by (later x)
    where
      by : (b : Bool) → length (cond b (x ∷ filter later xs) (filter later xs)) ≡ length (filter later xs) + length (cond b (x ∷ []) [])
      by true = omega arith
      by false = omega arith

  reversed : (xs : List ℕ) → length (filter later (reverse xs)) ≡ length (filter later xs)
  reversed [] = refl
  reversed (x ∷ xs) =
      ap (λ (l : List ℕ). length (filter later l)) (reverse_onto xs x [])
      ∙ ap length (filter-append later (reverse xs) (x ∷ []))
      ∙ length-append (filter later (reverse xs)) (filter later (x ∷ []))
      ∙ ap (λ (n : ℕ). n + length (filter later (x ∷ []))) (reversed xs)
      ∙ sym (count_one x xs)

  never_later : (x : ℕ) → x ≤ m → later x ≡ false
  never_later x le = grind arith

  -- all that follow one that isn't later aren't
  all_low : (x : ℕ) (xs : List ℕ) → falls (x ∷ xs) ≡ true → x ≤ m → filter later (x ∷ xs) ≡ []
  all_low x [] f le = ap (λ (b : Bool). cond b (x ∷ []) []) (never_later x le)
  all_low x (y ∷ ys) f le =
      let w = both_true (nat_le y x) (falls (y ∷ ys)) f in
      let less : y ≤ x = at_most y x w.0 in
      ap (λ (b : Bool). cond b (x ∷ filter later (y ∷ ys)) (filter later (y ∷ ys))) (never_later x le)
      ∙ all_low y ys w.1 (omega arith)
    where
      at_most : (a b : ℕ) → nat_le a b ≡ true → a ≤ b
      at_most a b e = grind arith

  falls_on : (x : ℕ) (xs : List ℕ) → falls (x ∷ xs) ≡ true → falls xs ≡ true
  falls_on x [] f = refl
  falls_on x (y ∷ ys) f = (both_true (nat_le y x) (falls (y ∷ ys)) f).1

  none_dropped : (n : ℕ) (xs : List ℕ) → falls xs ≡ true → (n < length xs → slice_index xs n ≤ m) → filter later (drop n xs) ≡ []
  none_dropped zero [] f h = refl
  none_dropped zero (x ∷ xs) f h = all_low x xs f (h (omega arith))
  none_dropped (suc n) [] f h = refl
  none_dropped (suc n) (x ∷ xs) f h = none_dropped n xs (falls_on x xs f) (λ l. h (omega (arith, l)))

  kept_count : (n : ℕ) (xs : List ℕ) → falls xs ≡ true → (n < length xs → slice_index xs n ≤ m)
      → length (filter later (take n xs)) ≡ length (filter later xs)
  kept_count n xs f h =
      sym (ap (λ (l : List ℕ). length (filter later l)) (sym (take-append-drop n xs))
      ∙ ap length (filter-append later (take n xs) (drop n xs))
      ∙ length-append (filter later (take n xs)) (filter later (drop n xs))
      ∙ ap (λ (l : List ℕ). length (filter later (take n xs)) + length l) (none_dropped n xs f h)
      ∙ plus_none (length (filter later (take n xs))))
    where
      plus_none : (k : ℕ) → k + 0 ≡ k
      plus_none k = omega arith

  logged_count : (xs : List Logged) → length (map (λ (x : Logged). x.step) (filter (λ (x : Logged). later x.moment) xs))
      ≡ length (filter later (map (λ (x : Logged). x.moment) xs))
  logged_count xs =
      length-map (filter (λ (x : Logged). later x.moment) xs) (λ (x : Logged). x.step)
      ∙ sym (length-map (filter (λ (x : Logged). later x.moment) xs) (λ (x : Logged). x.moment))
      ∙ ap length (filter_seen (λ (x : Logged). x.moment) later xs)

  -- what stands at the base isn't later
  base_low : (c : Changes) → nat_lt m (base_of c) ≡ false → 256 < length c.moments → slice_index c.moments 256 ≤ m
  base_low c e l = by (nat_le (length c.moments) 256) refl e
    where
      by : (b : Bool) → nat_le (length c.moments) 256 ≡ b → nat_lt m (if b then c.origin else slice_index c.moments 256) ≡ false
          → slice_index c.moments 256 ≤ m
      by true q f = absurd (more (length c.moments) q l)
        where
          more : (k : ℕ) → nat_le k 256 ≡ true → 256 < k → ⊥
          more k g h = grind arith
      by false q f = low (slice_index c.moments 256) f
        where
          low : (k : ℕ) → nat_lt m k ≡ false → k ≤ m
          low k g = grind arith

pub steps_are_changes : StepsAreChanges
steps_are_changes l c m is = (
  λ e. ap (λ (b : Bool). answer b) (ap (nat_lt m) is.base ∙ e),
  λ e. (
    ap (λ (b : Bool). answer b) (ap (nat_lt m) is.base ∙ e),
    logged_count m l.changes
        ∙ sym (reversed m (map (λ (x : Logged). x.moment) l.changes))
        ∙ ap (λ (xs : List ℕ). length (filter (later m) xs)) is.kept
        ∙ kept_count m 256 c.moments is.falling (base_low m c e),
  ),
)
  where
    answer : Bool → Result (List Step) ℕ
    answer b = if b then Err full_update_required else Ok (steps_later l m)
