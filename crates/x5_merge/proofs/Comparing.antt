-- Two lists compared member by member: what one step of the loop and its ends say, by what is left of both lists.
use Rattle.std.proofs.Common.{◌≡◌, ℕ, ◌+◌, ◌<◌, ◌≤◌, List, [], ◌∷◌, length, get_or, map, drop, refl, sym, ap, ◌∙◌, arith, length-drop}
use Rattle.std.proofs.lemmas.List.{drop_more, drop_all}
use Rattle.std.specs.Cmp.Lexicographic.{slice_cmp}
use Rattle.std.specs.Ordering.{ordering_then}
use Rattle.std.specs.declared.cmp.Ordering.{Ordering}
use Rattle.std.specs.declared.cmp.Ordering.TheVariants.{Less, Equal, Greater}

module _ {A K : Type 0} (f : A → K) (cmp : K → K → Ordering) where
  rest_of : (xs : List A) (i : ℕ) (x : A) → i < length xs → x ≡ get_or xs i x → drop i xs ≡ x ∷ drop (i + 1) xs
  rest_of xs i x l p = drop_more xs i x l ∙ ap (λ (z : A). z ∷ drop (i + 1) xs) (sym p)

  pub one_step : (a b : List A) (i : ℕ) (x y : A) → i < length a → i < length b → x ≡ get_or a i x → y ≡ get_or b i y
      → slice_cmp cmp (map f (drop i a)) (map f (drop i b)) ≡ ordering_then (cmp (f x) (f y)) (slice_cmp cmp (map f (drop (i + 1) a)) (map f (drop (i + 1) b)))
  one_step a b i x y l m p q =
      let e = rest_of a i x l p in
      let g = rest_of b i y m q in
      λ j. slice_cmp cmp (map f (e j)) (map f (g j))

  pub first_ends : (a b : List A) (i : ℕ) → length a ≤ i → i < length b → slice_cmp cmp (map f (drop i a)) (map f (drop i b)) ≡ Less
  first_ends a b i l m = rw (drop_all i a l) (by (drop i b) (omega (arith, length-drop i b)))
    where
      by : (ys : List A) → 0 < length ys → slice_cmp cmp [] (map f ys) ≡ Less
      by [] n = absurd (omega arith)
      by (y ∷ ys) n = refl

  pub second_ends : (a b : List A) (i : ℕ) → i < length a → length b ≤ i → slice_cmp cmp (map f (drop i a)) (map f (drop i b)) ≡ Greater
  second_ends a b i l m = rw (drop_all i b m) (by (drop i a) (omega (arith, length-drop i a)))
    where
      by : (xs : List A) → 0 < length xs → slice_cmp cmp (map f xs) [] ≡ Greater
      by [] n = absurd (omega arith)
      by (x ∷ xs) n = refl

  pub both_end : (a b : List A) (i : ℕ) → length a ≤ i → length b ≤ i → slice_cmp cmp (map f (drop i a)) (map f (drop i b)) ≡ Equal
  both_end a b i l m =
      let e = drop_all i a l in
      let g = drop_all i b m in
      λ j. slice_cmp cmp (map f (e j)) (map f (g j))
