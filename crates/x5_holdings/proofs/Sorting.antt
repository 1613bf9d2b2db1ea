-- A stable sort has one outcome: two lists in order, of which each class of ties is the same, are one list.
use Rattle.std.proofs.Common.{◌≡◌, ℕ, suc, ◌+◌, ◌<◌, Bool, true, false, cond, not, ◌⊎◌, inl, inr, List, [], ◌∷◌}
use Rattle.std.proofs.Common.{length, get_or, refl, sym, ap, subst, ◌∙◌, arith}
use Rattle.std.specs.Prelude.{⊤}
use Rattle.std.specs.List.{filter}
use Rattle.std.specs.List.Sorted.{ties, IsSortedBy, IsStableBy}
use Rattle.std.specs.Cmp.{IsStrictWeakOrder}
use Rattle.x5_model.specs.Words.{insert_sorted, sorted}
use Rattle.x5_model.specs.Members.{In, here}
use Rattle.x5_model.proofs.Lists.{both_true, and_true, not_true, true_or_false, in_first, in_filter, of_filter}
use Rattle.x5_model.proofs.Ascending.{of_insert}

-- no member is below an earlier one
abbrev pub Rising : {A : Type 0} → (A → A → Bool) → List A → Type 0
Rising lt [] = ⊤
Rising {A} lt (x ∷ xs) = ((z : A) → In z xs → lt z x ≡ false) × Rising lt xs

module _ {A : Type 0} (lt : A → A → Bool) (weak : IsStrictWeakOrder lt) where
  -- ---- ties

  itself_not : (x : A) → lt x x ≡ false
  itself_not x = elim (true_or_false (lt x x)) [ inl e ↦ weak.one_way x x e | inr e ↦ e ]

  pub tie : (x y : A) → lt x y ≡ false → lt y x ≡ false → ties lt x y ≡ true
  tie x y e f = and_true (not (lt x y)) (not (lt y x)) (ap not e) (ap not f)

  of_tie : (x y : A) → ties lt x y ≡ true → (lt x y ≡ false) × (lt y x ≡ false)
  of_tie x y e = let w = both_true (not (lt x y)) (not (lt y x)) e in (not_true (lt x y) w.0, not_true (lt y x) w.1)

  tie_itself : (x : A) → ties lt x x ≡ true
  tie_itself x = tie x x (itself_not x) (itself_not x)

  tie_back : (x y : A) → ties lt x y ≡ true → ties lt y x ≡ true
  tie_back x y e = let w = of_tie x y e in tie y x w.1 w.0

  tie_chain : (x y z : A) → ties lt x y ≡ true → ties lt y z ≡ true → ties lt x z ≡ true
  tie_chain x y z e f =
      let v = of_tie x y e in
      let w = of_tie y z f in
      tie x z (weak.chain x y z v.0 w.0) (weak.chain z y x w.1 v.1)

  -- ---- one outcome

  first_in : (x : A) (xs ys : List A) → filter (ties lt x) (x ∷ xs) ≡ filter (ties lt x) ys → In x ys
  first_in x xs ys e = (of_filter (ties lt x) x ys (subst (λ (zs : List A). In x zs) e (in_filter (ties lt x) x
      (x ∷ xs) here (tie_itself x)))).0

  not_above : (a b : A) (ys : List A) → Rising lt (b ∷ ys) → In a (b ∷ ys) → lt a b ≡ false
  not_above a b ys r i = elim (in_first a b ys i) [ inl e ↦ ap (λ (z : A). lt z b) e ∙ itself_not b | inr j ↦ r.0 a j ]

  same_head : (a b : A) (xs ys : List A) → ties lt a b ≡ true
      → filter (ties lt a) (a ∷ xs) ≡ filter (ties lt a) (b ∷ ys) → a ≡ b
  same_head a b xs ys t e = head (left ∙ e ∙ right)
    where
      left : a ∷ filter (ties lt a) xs ≡ filter (ties lt a) (a ∷ xs)
      left = sym (ap (λ (c : Bool). cond c (a ∷ filter (ties lt a) xs) (filter (ties lt a) xs)) (tie_itself a))

      right : filter (ties lt a) (b ∷ ys) ≡ b ∷ filter (ties lt a) ys
      right = ap (λ (c : Bool). cond c (b ∷ filter (ties lt a) ys) (filter (ties lt a) ys)) t

      head : a ∷ filter (ties lt a) xs ≡ b ∷ filter (ties lt a) ys → a ≡ b
      head q = cc

  same_rest : (c : Bool) (a : A) (us vs : List A) → cond c (a ∷ us) us ≡ cond c (a ∷ vs) vs → us ≡ vs
  same_rest true a us vs e = cc
  same_rest false a us vs e = e

  pub one_outcome : (xs ys : List A) → Rising lt xs → Rising lt ys → ((q : A)
      → filter (ties lt q) xs ≡ filter (ties lt q) ys) → xs ≡ ys
  one_outcome [] [] r s f = refl
  one_outcome [] (y ∷ ys) r s f = elim (first_in y ys [] (sym (f y))) [ ]
  one_outcome (x ∷ xs) [] r s f = elim (first_in x xs [] (f x)) [ ]
  one_outcome (x ∷ xs) (y ∷ ys) r s f =
      let t : ties lt x y ≡ true = tie x y (not_above x y ys s (first_in x xs (y ∷ ys) (f x))) (not_above y x xs r
      (first_in y ys (x ∷ xs) (sym (f y)))) in
      let e : x ≡ y = same_head x y xs ys t (f x) in
      let rest : xs ≡ ys = one_outcome xs ys r.1 s.1 (λ q. same_rest (ties lt q x) x (filter (ties lt q) xs)
      (filter (ties lt q) ys)
      (f q ∙ ap (λ (z : A). cond (ties lt q z) (z ∷ filter (ties lt q) ys) (filter (ties lt q) ys)) (sym e))) in
      λ i. e i ∷ rest i

  -- ---- sorting

  insert_step : (b : Bool) (x y : A) (ys rest : List A) → lt y x ≡ b → Rising lt (y ∷ ys) → Rising lt rest
      → ((z : A) → In z rest → (z ≡ x) ⊎ In z ys) → Rising lt (cond b (y ∷ rest) (x ∷ y ∷ ys))
  insert_step true x y ys rest e r s f = (
    λ z i. elim (f z i) [ inl p ↦ ap (λ (w : A). lt w y) p ∙ weak.one_way y x e | inr j ↦ r.0 z j ],
    s,
  )
  insert_step false x y ys rest e r s f = (
    λ z i. elim (in_first z y ys i) [ inl p ↦ ap (λ (w : A). lt w x) p ∙ e | inr j ↦ weak.chain z y x (r.0 z j) e ],
    r,
  )

  insert_rising : (x : A) (ys : List A) → Rising lt ys → Rising lt (insert_sorted lt x ys)
  insert_rising x [] r = (λ z i. elim i [ ], tt)
  insert_rising x (y ∷ ys) r = insert_step (lt y x) x y ys (insert_sorted lt x ys) refl r (insert_rising x ys r.1)
      (λ z i. of_insert lt z x ys i)

  pub sorted_rising : (xs : List A) → Rising lt (sorted lt xs)
  sorted_rising [] = tt
  sorted_rising (x ∷ xs) = insert_rising x (sorted lt xs) (sorted_rising xs)

  swapped : (c d : Bool) (x y : A) (zs : List A) → (c ≡ true → d ≡ true → ⊥)
      → cond d (y ∷ cond c (x ∷ zs) zs) (cond c (x ∷ zs) zs) ≡ cond c (x ∷ cond d (y ∷ zs) zs) (cond d (y ∷ zs) zs)
  swapped true true x y zs f = absurd (f refl refl)
  swapped true false x y zs f = refl
  swapped false true x y zs f = refl
  swapped false false x y zs f = refl

  class_step : (b : Bool) (q x y : A) (ys rest : List A) → lt y x ≡ b
      → filter (ties lt q) rest ≡ filter (ties lt q) (x ∷ ys)
      → filter (ties lt q) (cond b (y ∷ rest) (x ∷ y ∷ ys)) ≡ filter (ties lt q) (x ∷ y ∷ ys)
  class_step false q x y ys rest e f = refl
  class_step true q x y ys rest e f =
      ap (λ (zs : List A). cond (ties lt q y) (y ∷ zs) zs) f
      ∙ swapped (ties lt q x) (ties lt q y) x y (filter (ties lt q) ys) (λ c d. apart (tie_chain y q x
      (tie_back q y d) c))
    where
      apart : ties lt y x ≡ true → ⊥
      apart t = let w = (of_tie y x t).0 in cc

  class_insert : (q x : A) (ys : List A) → filter (ties lt q) (insert_sorted lt x ys) ≡ filter (ties lt q) (x ∷ ys)
  class_insert q x [] = refl
  class_insert q x (y ∷ ys) = class_step (lt y x) q x y ys (insert_sorted lt x ys) refl (class_insert q x ys)

  -- a sort leaves each class as it was
  pub class_sorted : (q : A) (xs : List A) → filter (ties lt q) (sorted lt xs) ≡ filter (ties lt q) xs
  class_sorted q [] = refl
  class_sorted q (x ∷ xs) =
      class_insert q x (sorted lt xs) ∙ ap (λ (zs : List A). cond (ties lt q x) (x ∷ zs) zs) (class_sorted q xs)

  adjacent_rising : (xs : List A) → ((k : ℕ) (d : A) → suc k < length xs
      → lt (get_or xs (suc k) d) (get_or xs k d) ≡ false) → Rising lt xs
  adjacent_rising [] f = tt
  adjacent_rising (x ∷ []) f = (λ z i. elim i [ ], tt)
  adjacent_rising (x ∷ y ∷ ys) f =
      let rest : Rising lt (y ∷ ys) = adjacent_rising (y ∷ ys) (λ k d l. f (suc k) d (omega arith)) in
      let next : lt y x ≡ false = f 0 x (omega arith) in (
        λ z i. elim (in_first z y ys i) [
          | inl p ↦ ap (λ (w : A). lt w x) p
              ∙ next
          | inr j ↦ weak.chain z y x (rest.0 z j) next
        ],
        rest,
      )

  after_one : (k : ℕ) → k + 1 ≡ suc k
  after_one k = omega arith

  -- what a stable sort gives is the list in order
  pub stable_sort : (xs ys : List A) → IsSortedBy lt ys → IsStableBy lt xs ys → ys ≡ sorted lt xs
  stable_sort xs ys s t =
      one_outcome ys (sorted lt xs)
      (adjacent_rising ys (λ k d l. subst (λ (n : ℕ). lt (get_or ys n d) (get_or ys k d)
      ≡ false) (after_one k) (s k d (omega arith) (omega arith))))
      (sorted_rising xs) (λ q. t q ∙ sym (class_sorted q xs))
