-- Members of lists that get one more or lose one.
use Rattle.std.proofs.Common.{◌≡◌, ℕ, zero, suc, ◌<◌, ◌⊎◌, inl, inr, List, [], ◌∷◌, ◌++◌, length, take, drop, get_or, sym, subst, arith}
use Rattle.x5_model.specs.Members.{In, Once, here, there}
use Rattle.x5_model.proofs.Lists.{in_first, in_either, in_left, in_right}
use Rattle.x5_dse.proofs.Spots.{in_get}

module _ {A : Type 0} (x : A) where
  pub in_inserted : (z : A) (xs : List A) (n : ℕ) → In z (take n xs ++ x ∷ drop n xs) → (z ≡ x) ⊎ In z xs
  in_inserted z xs zero i = in_first z x xs i
  in_inserted z [] (suc n) i = in_first z x [] i
  in_inserted z (y ∷ ys) (suc n) i =
      elim (in_first z y (take n ys ++ x ∷ drop n ys) i) [
        | inl p ↦ inr (subst (λ (w : A). In z (w ∷ ys)) p here)
        | inr j ↦ elim (in_inserted z ys n j) [ inl p ↦ inl p | inr k ↦ inr (there k) ]
      ]

  pub new_inserted : (xs : List A) (n : ℕ) → In x (take n xs ++ x ∷ drop n xs)
  new_inserted xs zero = here
  new_inserted [] (suc n) = here
  new_inserted (y ∷ ys) (suc n) = there (new_inserted ys n)

  pub old_inserted : (z : A) (xs : List A) (n : ℕ) → In z xs → In z (take n xs ++ x ∷ drop n xs)
  old_inserted z xs zero i = there i
  old_inserted z [] (suc n) i = elim i [ ]
  old_inserted z (y ∷ ys) (suc n) i =
      elim (in_first z y ys i) [
        | inl p ↦ subst (λ (w : A). In z (w ∷ (take n ys ++ x ∷ drop n ys))) p here
        | inr j ↦ there (old_inserted z ys n j)
      ]

  pub once_front : (xs : List A) → Once (xs ++ x ∷ []) → Once xs
  once_front [] h = tt
  once_front (y ∷ ys) h = ((λ i. h.0 (in_left y ys (x ∷ []) i)), once_front ys h.1)

  pub once_end : (xs : List A) → Once (xs ++ x ∷ []) → In x xs → ⊥
  once_end [] h i = elim i [ ]
  once_end (y ∷ ys) h i =
      elim (in_first x y ys i) [
        | inl p ↦ h.0 (in_right y ys (x ∷ []) (subst (λ (w : A). In w (x ∷ [])) p here))
        | inr j ↦ once_end ys h.1 j
      ]

  pub once_push : (xs : List A) → Once xs → (In x xs → ⊥) → Once (xs ++ x ∷ [])
  once_push [] h f = ((λ i. elim i [ ]), tt)
  once_push (y ∷ ys) h f = (
    (λ i. elim (in_either y ys (x ∷ []) i) [
      | inl j ↦ h.0 j
      | inr j ↦ elim (in_first y x [] j) [ inl p ↦ f (subst (λ (w : A). In x (w ∷ ys)) (sym p) here) | inr k ↦ elim k [ ] ]
    ]),
    once_push ys h.1 (λ i. f (there i)),
  )

-- ---- one member less

module _ {A : Type 0} where
  pub of_removed : (z : A) (xs : List A) (n : ℕ) → In z (take n xs ++ drop (suc n) xs) → In z xs
  of_removed z [] zero i = elim i [ ]
  of_removed z [] (suc n) i = elim i [ ]
  of_removed z (y ∷ ys) zero i = there i
  of_removed z (y ∷ ys) (suc n) i =
      elim (in_first z y (take n ys ++ drop (suc n) ys) i) [
        | inl p ↦ subst (λ (w : A). In z (w ∷ ys)) p here
        | inr j ↦ there (of_removed z ys n j)
      ]

  pub in_removed : (z : A) (xs : List A) (n : ℕ) (d : A) → In z xs → (z ≡ get_or xs n d) ⊎ In z (take n xs ++ drop (suc n) xs)
  in_removed z [] n d i = elim i [ ]
  in_removed z (y ∷ ys) zero d i = in_first z y ys i
  in_removed z (y ∷ ys) (suc n) d i =
      elim (in_first z y ys i) [
        | inl p ↦ inr (subst (λ (w : A). In z (w ∷ (take n ys ++ drop (suc n) ys))) p here)
        | inr j ↦ elim (in_removed z ys n d j) [ inl p ↦ inl p | inr k ↦ inr (there k) ]
      ]

  pub gone : (xs : List A) (n : ℕ) (d : A) → n < length xs → Once xs → In (get_or xs n d) (take n xs ++ drop (suc n) xs) → ⊥
  gone [] n d l h i = absurd (omega arith)
  gone (y ∷ ys) zero d l h i = h.0 i
  gone (y ∷ ys) (suc n) d l h i =
      elim (in_first (get_or ys n d) y (take n ys ++ drop (suc n) ys) i) [
        | inl p ↦ h.0 (subst (λ (w : A). In w ys) p (in_get ys n d (omega arith)))
        | inr j ↦ gone ys n d (omega arith) h.1 j
      ]
