-- Lists that have the same members of each class, in the same order, are sorted into one list. So it makes no difference whether
-- what references are made of was sorted before.
use Rattle.std.proofs.Common.{◌≡◌, Bool, true, false, cond, inl, inr, ◌⊎◌, List, [], ◌∷◌, ◌++◌, refl, sym, ap, ◌∙◌}
use Rattle.std.specs.List.{filter, flat_map}
use Rattle.std.specs.List.Sorted.{ties}
use Rattle.std.specs.Cmp.{IsStrictWeakOrder}
use Rattle.x5_model.specs.Words.{insert_sorted, sorted}
use Rattle.x5_model.specs.Members.{In, here, there}
use Rattle.x5_model.proofs.Lists.{of_filter}
use Rattle.x5_merge.proofs.Sorting.{one_outcome, sorted_rising, class_sorted}
use Rattle.x5_eval.proofs.Gathering.{filter_joined, of_tie, tie_back, tie_chain}

empty_or_not : {A : Type 0} (xs : List A) → (xs ≡ []) ⊎ ((x : A) × In x xs)
empty_or_not [] = inl refl
empty_or_not (x ∷ xs) = inr (x, here)

append_none : {A : Type 0} (xs : List A) → xs ++ [] ≡ xs
append_none [] = refl
append_none {A} (x ∷ xs) = ap (λ (l : List A). x ∷ l) (append_none xs)

three : {A : Type 0} (xs ys zs : List A) → (xs ++ ys) ++ zs ≡ xs ++ (ys ++ zs)
three [] ys zs = refl
three {A} (x ∷ xs) ys zs = ap (λ (l : List A). x ∷ l) (three xs ys zs)

module _ {R : Type 0} (lt : R → R → Bool) (weak : IsStrictWeakOrder lt) where
  abbrev pub AreAlike : List R → List R → Type 0
  AreAlike xs ys = (q : R) → filter (ties lt q) xs ≡ filter (ties lt q) ys

  pub alike_sorted : (xs ys : List R) → AreAlike xs ys → sorted lt xs ≡ sorted lt ys
  alike_sorted xs ys f =
      one_outcome lt weak (sorted lt xs) (sorted lt ys) (sorted_rising lt weak xs) (sorted_rising lt weak ys)
      (λ q. class_sorted lt weak q xs ∙ f q ∙ sym (class_sorted lt weak q ys))

  pub alike_joined : (ks ls ms ns : List R) → AreAlike ks ls → AreAlike ms ns → AreAlike (ks ++ ms) (ls ++ ns)
  alike_joined ks ls ms ns f g q =
      filter_joined (ties lt q) ks ms ∙ (λ i. f q i ++ g q i) ∙ sym (filter_joined (ties lt q) ls ns)

  pub alike_flat : {A : Type 0} (f g : A → List R) (xs : List A) → ((x : A) → In x xs → AreAlike (f x) (g x)) → AreAlike (flat_map f xs) (flat_map g xs)
  alike_flat f g [] h q = refl
  alike_flat f g (x ∷ xs) h q = alike_joined (f x) (g x) (flat_map f xs) (flat_map g xs) (h x here) (alike_flat f g xs (λ y i. h y (there i))) q

  -- where all of the one are below all of the other
  swapped : (xs ys : List R) → ((a b : R) → In a xs → In b ys → lt b a ≡ true) → AreAlike (ys ++ xs) (xs ++ ys)
  swapped xs ys f q =
      filter_joined (ties lt q) ys xs
      ∙ elim (empty_or_not (filter (ties lt q) xs)) [
        | inl e ↦ ap (λ (l : List R). filter (ties lt q) ys ++ l) e ∙ append_none (filter (ties lt q) ys)
            ∙ sym (ap (λ (l : List R). l ++ filter (ties lt q) ys) e)
        | inr w ↦ elim (empty_or_not (filter (ties lt q) ys)) [
          | inl e ↦ ap (λ (l : List R). l ++ filter (ties lt q) xs) e ∙ sym (append_none (filter (ties lt q) xs))
              ∙ sym (ap (λ (l : List R). filter (ties lt q) xs ++ l) e)
          | inr v ↦ absurd (
              let a = of_filter (ties lt q) w.0 xs w.1 in
              let b = of_filter (ties lt q) v.0 ys v.1 in
              let t : ties lt v.0 w.0 ≡ true = tie_chain lt weak v.0 q w.0 (tie_back lt weak q v.0 b.1) a.1 in
              let n : lt v.0 w.0 ≡ false = (of_tie lt weak v.0 w.0 t).0 in
              let y : lt v.0 w.0 ≡ true = f w.0 v.0 a.0 b.0 in
              cc)
        ]
      ]
      ∙ sym (filter_joined (ties lt q) xs ys)

  module _ {A : Type 0} (low : A → A → Bool) (f : A → List R)
      (apart : (x y : A) → low y x ≡ true → (a b : R) → In a (f x) → In b (f y) → lt b a ≡ true) where
    inserted : (x : A) (ys : List A) → AreAlike (flat_map f (insert_sorted low x ys)) (f x ++ flat_map f ys)
    inserted x [] q = refl
    inserted x (y ∷ ys) q = by (low y x) refl (inserted x ys) q
      where
        by : (b : Bool) → low y x ≡ b → AreAlike (flat_map f (insert_sorted low x ys)) (f x ++ flat_map f ys)
            → AreAlike (flat_map f (cond b (y ∷ insert_sorted low x ys) (x ∷ y ∷ ys))) (f x ++ (f y ++ flat_map f ys))
        by false e h q = refl
        by true e h q =
            alike_joined (f y) (f y) (flat_map f (insert_sorted low x ys)) (f x ++ flat_map f ys) (λ z. refl) h q
            ∙ ap (filter (ties lt q)) (sym (three (f y) (f x) (flat_map f ys)))
            ∙ alike_joined (f y ++ f x) (f x ++ f y) (flat_map f ys) (flat_map f ys) (swapped (f x) (f y) (apart x y e)) (λ z. refl) q
            ∙ ap (filter (ties lt q)) (three (f x) (f y) (flat_map f ys))

    -- what each member gives is the same, in whatever order members with other keys stand
    pub flat_sorted : (xs : List A) → AreAlike (flat_map f (sorted low xs)) (flat_map f xs)
    flat_sorted [] q = refl
    flat_sorted (x ∷ xs) q =
        inserted x (sorted low xs) q
        ∙ alike_joined (f x) (f x) (flat_map f (sorted low xs)) (flat_map f xs) (λ z. refl) (flat_sorted xs) q
