-- What rows of names lead to is, class by class, what a test of all members leaves: rows stand by keys, and those that are passed
-- over give nothing.
use Rattle.std.proofs.Common.{◌≡◌, ℕ, suc, ◌+◌, Bool, true, false, cond, ◌&&◌, inl, inr, List, [], ◌∷◌, ◌++◌, map, refl, sym, ap, subst, ◌∙◌, arith, Option, Some, None}
use Rattle.std.specs.Cmp.{IsStrictWeakOrder}
use Rattle.std.specs.List.{filter, flat_map, slice_get}
use Rattle.std.specs.List.Sorted.{ties}
use Rattle.x5_model.specs.Words.{in_option}
use Rattle.x5_model.specs.Members.{In, here, there}
use Rattle.x5_model.specs.Keys.{Key, is_prefix, same_key, key_below}
use Rattle.x5_model.proofs.KeyLaws.{key_decides}
use Rattle.x5_model.proofs.Lists.{in_first}
use Rattle.x5_model.proofs.Ascending.{of_sorted}
use Rattle.x5_holdings.specs.Rows.{KeyRow, numbered, rows_of}
use Rattle.x5_holdings.specs.Runs.{stands_under}
use Rattle.x5_eval.specs.Numbers.{in_reach, own_place, reaches}
use Rattle.x5_eval.specs.Rest.{at_place, places_to}
use Rattle.x5_eval.proofs.Classes.{AreAlike, flat_sorted}
use Rattle.x5_eval.proofs.Ordered.{by_key, rows_by_key}
use Rattle.x5_eval.proofs.Reaching.{rows_from}

plus_none : (n : ℕ) → n ≡ n + 0
plus_none n = omega arith

none_plus : (n : ℕ) → 0 + n ≡ n
none_plus n = omega arith

plus_one : (n j : ℕ) → (n + 1) + j ≡ n + suc j
plus_one n j = omega arith

and_always : (b : Bool) → (b && true) ≡ b
and_always true = refl
and_always false = refl

reach_of : (base : Key) (depth : Option ℕ) (r : KeyRow) → reaches base depth r.0 ≡ (stands_under base r && in_reach depth r)
reach_of base None r = sym (and_always (is_prefix base r.0))
reach_of base (Some d) r = refl

module _ {B R : Type 0} (key : B → Key) (lt : R → R → Bool) (weak : IsStrictWeakOrder lt) (g f : B → List R) (base : Key) (depth : Option ℕ)
    (agree : (x : B) → reaches base depth (key x) ≡ true → g x ≡ f x)
    (nothing : (x : B) → reaches base depth (key x) ≡ false → f x ≡ [])
    (apart : (x y : B) → key_below (key y) (key x) ≡ true → (a b : R) → In a (f x) → In b (f y) → lt b a ≡ true)
    (xs : List B) where
  abbrev rows : List KeyRow
  rows = numbered (map key xs)

  -- what is told of a row's member
  abbrev kept : KeyRow → B → List R
  kept r x = cond (same_key (key x) r.0) (f x) []

  abbrev told : KeyRow → List R
  told r = in_option [] (kept r) (slice_get xs r.1)

  told_at : (r : KeyRow) (x : B) → slice_get xs r.1 ≡ Some x → key x ≡ r.0 → told r ≡ f x
  told_at r x e q =
      ap (λ (o : Option B). in_option [] (kept r) o) e
      ∙ ap (λ (b : Bool). cond b (f x) []) ((key_decides (key x) r.0).1 q)

  of_told : (r : KeyRow) (a : R) → In a (told r) → (x : B) × In a (f x) × (key x ≡ r.0)
  of_told r a i = by (slice_get xs r.1) i
    where
      at : (x : B) (b : Bool) → same_key (key x) r.0 ≡ b → In a (cond b (f x) []) → (y : B) × In a (f y) × (key y ≡ r.0)
      at x true e j = (x, j, (key_decides (key x) r.0).0 e)
      at x false e j = elim j [ ]

      by : (o : Option B) → In a (in_option [] (kept r) o) → (y : B) × In a (f y) × (key y ≡ r.0)
      by None j = elim j [ ]
      by (Some x) j = at x (same_key (key x) r.0) refl j

  told_apart : (r s : KeyRow) → by_key s r ≡ true → (a b : R) → In a (told r) → In b (told s) → lt b a ≡ true
  told_apart r s e a b i j =
      let v = of_told r a i in
      let w = of_told s b j in
      apart v.0 w.0 ((λ t. key_below (w.2 t) (v.2 t)) ∙ e) a b v.1 w.1

  -- ---- each row is a member's
  row_at : (n : ℕ) (ys : List B) → ((i : ℕ) (y : B) → slice_get ys i ≡ Some y → slice_get xs (n + i) ≡ Some y)
      → (r : KeyRow) → In r (rows_from n (map key ys)) → (x : B) × (slice_get xs r.1 ≡ Some x) × (key x ≡ r.0)
  row_at n [] h r i = elim i [ ]
  row_at n (y ∷ ys) h r i = elim (in_first r (key y, n) (rows_from (n + 1) (map key ys)) i) [
    | inl e ↦ (
      y,
      ap (slice_get xs) (ap (λ (x : KeyRow). x.1) e ∙ plus_none n) ∙ h 0 y refl,
      sym (ap (λ (x : KeyRow). x.0) e),
    )
    | inr j ↦ row_at (n + 1) ys (λ k z q. ap (slice_get xs) (plus_one n k) ∙ h (suc k) z q) r j
  ]

  member : (r : KeyRow) → In r rows → (x : B) × (slice_get xs r.1 ≡ Some x) × (key x ≡ r.0)
  member r i = row_at 0 xs (λ k y q. ap (slice_get xs) (none_plus k) ∙ q) r i

  -- ---- all rows give what all members do
  all_told : (n : ℕ) (ys : List B) → ((i : ℕ) (y : B) → slice_get ys i ≡ Some y → told (key y, n + i) ≡ f y)
      → flat_map told (rows_from n (map key ys)) ≡ flat_map f ys
  all_told n [] h = refl
  all_told n (y ∷ ys) h = λ i.
      (ap (λ (m : ℕ). told (key y, m)) (plus_none n) ∙ h 0 y refl) i
      ++ all_told (n + 1) ys (λ j z q. ap (λ (m : ℕ). told (key z, m)) (plus_one n j) ∙ h (suc j) z q) i

  members_told : flat_map told rows ≡ flat_map f xs
  members_told = all_told 0 xs (λ j y q. told_at (key y, 0 + j) y (ap (slice_get xs) (none_plus j) ∙ q) refl)

  -- ---- rows that are passed over give nothing
  abbrev reached : List KeyRow → List ℕ
  reached rs = map own_place (filter (in_reach depth) (filter (stands_under base) rs))

  head_told : (r : KeyRow) → In r rows → reaches base depth r.0 ≡ true → at_place g xs (own_place r) ≡ told r
  head_told r i e =
      let w = member r i in
      ap (λ (o : Option B). in_option [] g o) w.1
      ∙ agree w.0 (ap (reaches base depth) w.2 ∙ e)
      ∙ sym (told_at r w.0 w.1 w.2)

  none_told : (r : KeyRow) → In r rows → reaches base depth r.0 ≡ false → told r ≡ []
  none_told r i e =
      let w = member r i in
      told_at r w.0 w.1 w.2 ∙ nothing w.0 (ap (reaches base depth) w.2 ∙ e)

  abbrev under : List KeyRow → List KeyRow
  under rs = filter (stands_under base) rs

  rows_told : (rs : List KeyRow) → ((r : KeyRow) → In r rs → In r rows) → flat_map (at_place g xs) (reached rs) ≡ flat_map told rs
  rows_told [] h = refl
  rows_told (r ∷ rs) h = by (stands_under base r) (in_reach depth r) refl refl (rows_told rs (λ s i. h s (there i)))
    where
      passed : reaches base depth r.0 ≡ false → flat_map (at_place g xs) (reached rs) ≡ flat_map told rs
          → flat_map (at_place g xs) (reached rs) ≡ told r ++ flat_map told rs
      passed e q = q ∙ sym (ap (λ (l : List R). l ++ flat_map told rs) (none_told r (h r here) e))

      by : (a b : Bool) → stands_under base r ≡ a → in_reach depth r ≡ b
          → flat_map (at_place g xs) (reached rs) ≡ flat_map told rs
          → flat_map (at_place g xs) (map own_place (filter (in_reach depth) (cond a (r ∷ under rs) (under rs)))) ≡ told r ++ flat_map told rs
      by false b p s q = passed (reach_of base depth r ∙ ap (λ (c : Bool). c && in_reach depth r) p) q
      by true false p s q =
          ap (λ (c : Bool). flat_map (at_place g xs) (map own_place (cond c (r ∷ filter (in_reach depth) (under rs)) (filter (in_reach depth) (under rs))))) s
          ∙ passed (reach_of base depth r ∙ (λ i. p i && s i)) q
      by true true p s q =
          ap (λ (c : Bool). flat_map (at_place g xs) (map own_place (cond c (r ∷ filter (in_reach depth) (under rs)) (filter (in_reach depth) (under rs))))) s
          ∙ (λ i. head_told r (h r here) (reach_of base depth r ∙ (λ j. p j && s j)) i ++ q i)

  pub picked : AreAlike lt weak (flat_map (at_place g xs) (places_to (map key xs) base depth)) (flat_map f xs)
  picked q =
      ap (λ (l : List R). filter (ties lt q) l) (
      rows_told (rows_of (map key xs)) (λ r i. of_sorted by_key r rows (subst (λ (l : List KeyRow). In r l) (rows_by_key (map key xs)) i))
      ∙ ap (flat_map told) (rows_by_key (map key xs)))
      ∙ flat_sorted lt weak by_key told told_apart rows q
      ∙ ap (λ (l : List R). filter (ties lt q) l) members_told
