-- Lists in order that get one more member at its place, or lose one.
use Rattle.std.proofs.Common.{◌≡◌, ℕ, zero, suc, ◌<◌, ◌≤◌, Bool, true, false, cond, ◌⊎◌, inl, inr, List, [], ◌∷◌, ◌++◌, length, map, take, drop, get_or, refl, sym, ap, subst, ◌∙◌, arith}
use Rattle.x5_model.specs.Words.{ascending, insert_sorted}
use Rattle.x5_model.specs.Members.{In, here, there}
use Rattle.x5_model.proofs.Ascending.{rest_ascending, first_below, cons_ascending, insert_ascending}
use Rattle.x5_dse.proofs.Spots.{get_in, lt_or_le}
use Rattle.x5_dse.proofs.Members.{of_removed}

module _ {A : Type 0} (below : A → A → Bool) (chain : (x y z : A) → below x y ≡ true → below y z ≡ true → below x z ≡ true) (never : (x : A) → below x x ≡ true → ⊥) where
  abbrev step : A → A → List A → Bool → List A
  step x y ys b = cond b (y ∷ insert_sorted below x ys) (x ∷ y ∷ ys)

  pub insert_at : (x : A) (xs : List A) (i : ℕ) → i ≤ length xs → ((k : ℕ) (d : A) → k < i → below (get_or xs k d) x ≡ true)
      → ((k : ℕ) (d : A) → i ≤ k → k < length xs → below x (get_or xs k d) ≡ true) → take i xs ++ x ∷ drop i xs ≡ insert_sorted below x xs
  insert_at x [] zero l f g = refl
  insert_at x [] (suc i) l f g = absurd (omega arith)
  insert_at x (y ∷ ys) zero l f g = sym (ap (step x y ys) (no (below y x) refl))
    where
      no : (b : Bool) → below y x ≡ b → below y x ≡ false
      no true e = absurd (never x (chain x y x (g 0 y (omega arith) (omega arith)) e))
      no false e = e
  insert_at x (y ∷ ys) (suc i) l f g =
      ap (λ (zs : List A). y ∷ zs) (insert_at x ys i (omega arith) (λ k d m. f (suc k) d (omega arith)) (λ k d m n. g (suc k) d (omega arith) (omega arith)))
      ∙ sym (ap (step x y ys) (f 0 y (omega arith)))

  -- in its place it leaves the list in order
  pub put_ascending : (x : A) (xs : List A) (i : ℕ) → i ≤ length xs → ((k : ℕ) (d : A) → k < i → below (get_or xs k d) x ≡ true)
      → ((k : ℕ) (d : A) → i ≤ k → k < length xs → below x (get_or xs k d) ≡ true) → ascending below xs ≡ true → ascending below (take i xs ++ x ∷ drop i xs) ≡ true
  put_ascending x xs i l f g h = subst (λ (zs : List A). ascending below zs ≡ true) (sym (insert_at x xs i l f g)) (insert_ascending below chain x xs apart h)
    where
      apart : (z : A) → In z xs → (below x z ≡ true) ⊎ (below z x ≡ true)
      apart z m = let w = get_in z xs m in elim (lt_or_le w.0 i) [
        | inl k ↦ inr (subst (λ (y : A). below y x ≡ true) (w.2 x) (f w.0 x k))
        | inr k ↦ inl (subst (λ (y : A). below x y ≡ true) (w.2 x) (g w.0 x k w.1))
      ]

  pub less_ascending : (xs : List A) (n : ℕ) → ascending below xs ≡ true → ascending below (take n xs ++ drop (suc n) xs) ≡ true
  less_ascending [] zero h = refl
  less_ascending [] (suc n) h = refl
  less_ascending (x ∷ xs) zero h = rest_ascending below chain x xs h
  less_ascending (x ∷ xs) (suc n) h =
      cons_ascending below chain x (take n xs ++ drop (suc n) xs) (λ z i. first_below below chain x z xs h (of_removed z xs n i)) (less_ascending xs n (rest_ascending below chain x xs h))

module _ {A B : Type 0} where
  pub map_insert : (f : A → B) (x : A) (xs : List A) (n : ℕ) → map f (take n xs ++ x ∷ drop n xs) ≡ take n (map f xs) ++ f x ∷ drop n (map f xs)
  map_insert f x xs zero = refl
  map_insert f x [] (suc n) = refl
  map_insert f x (y ∷ ys) (suc n) = ap (λ (zs : List B). f y ∷ zs) (map_insert f x ys n)

  pub map_remove : (f : A → B) (xs : List A) (n : ℕ) → map f (take n xs ++ drop (suc n) xs) ≡ take n (map f xs) ++ drop (suc n) (map f xs)
  map_remove f [] zero = refl
  map_remove f [] (suc n) = refl
  map_remove f (y ∷ ys) zero = refl
  map_remove f (y ∷ ys) (suc n) = ap (λ (zs : List B). f y ∷ zs) (map_remove f ys n)

  pub same_map : (f g : A → B) (xs : List A) → ((m : A) → In m xs → f m ≡ g m) → map f xs ≡ map g xs
  same_map f g [] e = refl
  same_map f g (x ∷ xs) e = let p = e x here in let q = same_map f g xs (λ m i. e m (there i)) in λ i. p i ∷ q i
