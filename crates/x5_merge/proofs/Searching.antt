-- A search by halves in members in the order of their keys tells whether one of them has a key.
use Rattle.std.proofs.Common.{◌≡◌, ℕ, zero, suc, ◌<◌, ◌≤◌, Bool, true, false, not, ◌⊎◌, inl, inr, List, [], ◌∷◌, length, get_or, refl, sym, ap, subst, ◌∙◌, arith, Result, Ok, Err, is_ok}
use Rattle.std.specs.List.{list_any}
use Rattle.std.specs.List.Sorted.{ties, IsBinarySearchResult, IsSearchInRange, IsNonDecreasingBy}
use Rattle.std.specs.Cmp.{IsStrictWeakOrder}
use Rattle.std.specs.declared.cmp.Ordering.{Ordering}
use Rattle.std.specs.declared.cmp.Ordering.TheVariants.{Less, Equal, Greater}
use Rattle.std.specs.Ordering.{is_lt, ordering_index, ordering_reverse}
use Rattle.std.proofs.lemmas.List.MinMax.{ranks_by}
use Rattle.x5_model.specs.Members.{In, here, there}
use Rattle.x5_model.specs.Keys.{Key, key_cmp}
use Rattle.x5_model.proofs.KeyLaws.{key_cmp_total}
use Rattle.x5_model.proofs.Lists.{both_true, and_true, not_true, true_or_false, any_in, of_any}
use Rattle.x5_merge.specs.Order.{below_by, Rising}

index_bound : (o : Ordering) → ordering_index o ≤ 2
index_bound Less = omega arith
index_bound Equal = omega arith
index_bound Greater = omega arith

below_or_not : (k n : ℕ) → (k < n) ⊎ (n ≤ k)
below_or_not k zero = inr (omega arith)
below_or_not zero (suc n) = inl (omega arith)
below_or_not (suc k) (suc n) = elim (below_or_not k n) [ inl l ↦ inl (omega arith) | inr l ↦ inr (omega arith) ]

in_get : {A : Type 0} (xs : List A) (i : ℕ) (d : A) → i < length xs → In (get_or xs i d) xs
in_get [] i d l = absurd (omega arith)
in_get (x ∷ xs) zero d l = here
in_get (x ∷ xs) (suc i) d l = there (in_get xs i d (omega arith))

at_some : {A : Type 0} (x : A) (xs : List A) → In x xs → (i : ℕ) × (i < length xs) × ((d : A) → get_or xs i d ≡ x)
at_some x [] i = elim i [ ]
at_some x (y ∷ ys) here = (0, omega arith, λ d. refl)
at_some x (y ∷ ys) (there i) = let w = at_some x ys i in (suc w.0, omega (arith, w.1), λ d. w.2 d)

module _ {A : Type 0} (key : A → Key) (x : A) where
  weak : IsStrictWeakOrder (below_by key)
  weak = ranks_by key_cmp_total key

  reversed : (y : A) (o : Ordering) → key_cmp (key y) (key x) ≡ o → key_cmp (key x) (key y) ≡ ordering_reverse o
  reversed y o e = key_cmp_total.antisymm (key x) (key y) ∙ ap ordering_reverse e

  not_greater : (a : A) → below_by key x a ≡ false → ordering_index (key_cmp (key a) (key x)) ≤ 1
  not_greater a n = by (key_cmp (key a) (key x)) refl
    where
      by : (o : Ordering) → key_cmp (key a) (key x) ≡ o → ordering_index o ≤ 1
      by Less e = omega arith
      by Equal e = omega arith
      by Greater e = absurd (let b : below_by key x a ≡ true = ap is_lt (reversed a Greater e) in cc)

  step : (a b : A) → below_by key b a ≡ false → (o : Ordering) → key_cmp (key b) (key x) ≡ o → ordering_index (key_cmp (key a) (key x)) ≤ ordering_index o
  step a b n Less e = elim (true_or_false (below_by key a x)) [
    | inl l ↦ first (key_cmp (key a) (key x)) l
    | inr l ↦ absurd (let f : below_by key b x ≡ false = weak.chain b a x n l in let t : below_by key b x ≡ true = ap is_lt e in cc)
  ]
    where
      first : (o : Ordering) → is_lt o ≡ true → ordering_index o ≤ 0
      first Less l = omega arith
      first Equal l = cc
      first Greater l = cc
  step a b n Equal e = not_greater a (weak.chain x b a (ap is_lt (reversed b Equal e)) n)
  step a b n Greater e = index_bound (key_cmp (key a) (key x))

  rises : (xs : List A) → Rising (below_by key) xs → IsNonDecreasingBy (λ y. ordering_index (key_cmp (key y) (key x))) xs
  rises [] r i j d l m = absurd (omega arith)
  rises (y ∷ ys) r zero zero d l m = omega arith
  rises (y ∷ ys) r zero (suc j) d l m = step y (get_or ys j d) (r.0 (get_or ys j d) (in_get ys j d (omega arith))) (key_cmp (key (get_or ys j d)) (key x)) refl
  rises (y ∷ ys) r (suc i) zero d l m = absurd (omega arith)
  rises (y ∷ ys) r (suc i) (suc j) d l m = rises ys r.1 i j d (omega arith) (omega arith)

  tied : (y : A) → key_cmp (key y) (key x) ≡ Equal → ties (below_by key) y x ≡ true
  tied y e = and_true (not (below_by key y x)) (not (below_by key x y)) (ap (λ (o : Ordering). not (is_lt o)) e) (ap (λ (o : Ordering). not (is_lt o)) (reversed y Equal e))

  untied : (y : A) (o : Ordering) → key_cmp (key y) (key x) ≡ o → ties (below_by key) y x ≡ true → o ≡ Equal
  untied y Less e t = absurd (let f : below_by key y x ≡ false = not_true (below_by key y x) (both_true (not (below_by key y x)) (not (below_by key x y)) t).0 in let b : below_by key y x ≡ true = ap is_lt e in cc)
  untied y Equal e t = refl
  untied y Greater e t = absurd (let f : below_by key x y ≡ false = not_true (below_by key x y) (both_true (not (below_by key y x)) (not (below_by key x y)) t).1 in let b : below_by key x y ≡ true = ap is_lt (reversed y Greater e) in cc)

  pub has : (xs : List A) → Rising (below_by key) xs → (r : Result ℕ ℕ) → IsSearchInRange r (length xs) → IsBinarySearchResult (λ y. key_cmp (key y) (key x)) xs r
      → is_ok r ≡ list_any (λ m. ties (below_by key) m x) xs
  has xs r (Ok i) l e = sym (any_in (λ m. ties (below_by key) m x) (get_or xs i x) xs (in_get xs i x l) (tied (get_or xs i x) (e x)))
  has xs r (Err i) l e =
      let parts = e (rises xs r) in
      elim (true_or_false (list_any (λ m. ties (below_by key) m x) xs)) [
        | inl t ↦ absurd (none (of_any (λ m. ties (below_by key) m x) xs t) parts.0 parts.1)
        | inr t ↦ sym t
      ]
    where
      none : (m : A) × In m xs × (ties (below_by key) m x ≡ true) → ((k : ℕ) (d : A) → 0 ≤ k → k < i → key_cmp (key (get_or xs k d)) (key x) ≡ Less)
          → ((k : ℕ) (d : A) → i ≤ k → k < length xs → key_cmp (key (get_or xs k d)) (key x) ≡ Greater) → ⊥
      none w f g =
          let at = at_some w.0 xs w.1 in
          let same : key_cmp (key (get_or xs at.0 x)) (key x) ≡ Equal = ap (λ (y : A). key_cmp (key y) (key x)) (at.2 x) ∙ untied w.0 (key_cmp (key w.0) (key x)) refl w.2 in
          elim (below_or_not at.0 i) [
            | inl b ↦ (let z : key_cmp (key (get_or xs at.0 x)) (key x) ≡ Less = f at.0 x (omega arith) b in cc)
            | inr b ↦ (let z : key_cmp (key (get_or xs at.0 x)) (key x) ≡ Greater = g at.0 x b at.1 in cc)
          ]
