-- Parts of a list or search that are joined one after the other: of those with one key the first is left, so the join of all
-- is the list in order of what each shows, each key once.
use Rattle.std.proofs.Common.{◌≡◌, Bool, true, false, cond, not, ◌&&◌, ◌||◌, inl, inr, List, [], ◌∷◌, ◌++◌, refl, sym, ap, ◌∙◌}
use Rattle.std.specs.List.{filter}
use Rattle.std.specs.List.Sorted.{ties}
use Rattle.std.specs.Cmp.{IsStrictWeakOrder}
use Rattle.x5_model.specs.Words.{ascending, sorted}
use Rattle.x5_model.specs.Members.{In, here, there}
use Rattle.x5_model.proofs.Lists.{both_true, not_true, true_or_false}
use Rattle.x5_model.proofs.Ascending.{first_below, rest_ascending}
use Rattle.x5_model_serve.specs.Answering.{first_each, joined}
use Rattle.x5_merge.proofs.Sorting.{chosen, one_outcome, sorted_rising, class_sorted, class_chosen, fresh_of, tie}

-- the first of a list alone
abbrev pub first_only : {A : Type 0} → List A → List A
first_only [] = []
first_only (x ∷ xs) = x ∷ []

first_of_two : {A : Type 0} (xs ys : List A) → first_only (xs ++ ys) ≡ chosen (first_only xs) (first_only ys)
first_of_two [] ys = refl
first_of_two (x ∷ xs) ys = refl

-- ---- filters one after the other
module _ {A : Type 0} (test other : A → Bool) where
  pub filter_all : (xs : List A) → ((x : A) → In x xs → test x ≡ true → other x ≡ true) → filter test (filter other xs) ≡ filter test xs
  filter_all [] f = refl
  filter_all (x ∷ xs) f = by (test x) (other x) refl refl (filter_all xs (λ y i. f y (there i)))
    where
      by : (a b : Bool) → test x ≡ a → other x ≡ b → filter test (filter other xs) ≡ filter test xs
          → filter test (cond b (x ∷ filter other xs) (filter other xs)) ≡ cond a (x ∷ filter test xs) (filter test xs)
      by true true p q e = ap (λ (c : Bool). cond c (x ∷ filter test (filter other xs)) (filter test (filter other xs))) p
          ∙ ap (λ (l : List A). x ∷ l) e
      by true false p q e = (let t : other x ≡ true = f x here p in cc)
      by false true p q e = ap (λ (c : Bool). cond c (x ∷ filter test (filter other xs)) (filter test (filter other xs))) p ∙ e
      by false false p q e = e

  pub filter_none : (xs : List A) → ((x : A) → In x xs → test x ≡ true → other x ≡ false) → filter test (filter other xs) ≡ []
  filter_none [] f = refl
  filter_none (x ∷ xs) f = by (other x) refl (filter_none xs (λ y i. f y (there i)))
    where
      by : (b : Bool) → other x ≡ b → filter test (filter other xs) ≡ [] → filter test (cond b (x ∷ filter other xs) (filter other xs)) ≡ []
      by false q e = e
      by true q e = elim (true_or_false (test x)) [
        | inl t ↦ absurd (let n : other x ≡ false = f x here t in cc)
        | inr t ↦ ap (λ (c : Bool). cond c (x ∷ filter test (filter other xs)) (filter test (filter other xs))) t ∙ e
      ]

module _ {A : Type 0} (test : A → Bool) where
  pub filter_joined : (xs ys : List A) → filter test (xs ++ ys) ≡ filter test xs ++ filter test ys
  filter_joined [] ys = refl
  filter_joined (x ∷ xs) ys = by (test x) (filter_joined xs ys)
    where
      by : (b : Bool) → filter test (xs ++ ys) ≡ filter test xs ++ filter test ys
          → cond b (x ∷ filter test (xs ++ ys)) (filter test (xs ++ ys)) ≡ cond b (x ∷ filter test xs) (filter test xs) ++ filter test ys
      by true e = ap (λ (zs : List A). x ∷ zs) e
      by false e = e

  pub filter_nothing : (xs : List A) → ((x : A) → In x xs → test x ≡ false) → filter test xs ≡ []
  filter_nothing [] f = refl
  filter_nothing (x ∷ xs) f = ap (λ (c : Bool). cond c (x ∷ filter test xs) (filter test xs)) (f x here) ∙ filter_nothing xs (λ y i. f y (there i))

module _ {A : Type 0} (lt : A → A → Bool) (weak : IsStrictWeakOrder lt) where
  pub of_tie : (x y : A) → ties lt x y ≡ true → (lt x y ≡ false) × (lt y x ≡ false)
  of_tie x y e = (let w = both_true (not (lt x y)) (not (lt y x)) e in (not_true (lt x y) w.0, not_true (lt y x) w.1))

  pub tie_back : (x y : A) → ties lt x y ≡ true → ties lt y x ≡ true
  tie_back x y e = (let w = of_tie x y e in tie lt weak y x w.1 w.0)

  pub tie_chain : (x y z : A) → ties lt x y ≡ true → ties lt y z ≡ true → ties lt x z ≡ true
  tie_chain x y z e f =
      let v = of_tie x y e in
      let w = of_tie y z f in
      tie lt weak x z (weak.chain x y z v.0 w.0) (weak.chain z y x w.1 v.1)

  tied_not_apart : (x y : A) → ties lt x y ≡ true → (lt x y || lt y x) ≡ false
  tied_not_apart x y e = by (lt x y) (lt y x) e
    where
      by : (a b : Bool) → (not a && not b) ≡ true → (a || b) ≡ false
      by true b e = cc
      by false true e = cc
      by false false e = refl

  not_tied_apart : (x y : A) → ties lt x y ≡ false → (lt x y || lt y x) ≡ true
  not_tied_apart x y e = by (lt x y) (lt y x) e
    where
      by : (a b : Bool) → (not a && not b) ≡ false → (a || b) ≡ true
      by true b e = refl
      by false true e = refl
      by false false e = cc

  -- of each class the first is left
  pub class_first : (q : A) (xs : List A) → filter (ties lt q) (first_each lt xs) ≡ first_only (filter (ties lt q) xs)
  class_first q [] = refl
  class_first q (x ∷ xs) = by (ties lt q x) refl (class_first q xs)
    where
      others : List A
      others = filter (λ y. lt x y || lt y x) (first_each lt xs)

      by : (b : Bool) → ties lt q x ≡ b → filter (ties lt q) (first_each lt xs) ≡ first_only (filter (ties lt q) xs)
          → cond b (x ∷ filter (ties lt q) others) (filter (ties lt q) others) ≡ first_only (cond b (x ∷ filter (ties lt q) xs) (filter (ties lt q) xs))
      by true t e = ap (λ (l : List A). x ∷ l) (filter_none (ties lt q) (λ y. lt x y || lt y x) (first_each lt xs)
          (λ y i s. tied_not_apart x y (tie_chain x q y (tie_back q x t) s)))
      by false t e = filter_all (ties lt q) (λ y. lt x y || lt y x) (first_each lt xs)
          (λ y i s. not_tied_apart x y (untied y s)) ∙ e
        where
          untied : (y : A) → ties lt q y ≡ true → ties lt x y ≡ false
          untied y s = elim (true_or_false (ties lt x y)) [
            | inl u ↦ absurd (let v : ties lt q x ≡ true = tie_chain q y x s (tie_back x y u) in cc)
            | inr u ↦ u
          ]

  -- in a list in order each class has one member at most
  pub class_alone : (q : A) (ys : List A) → ascending lt ys ≡ true → first_only (filter (ties lt q) ys) ≡ filter (ties lt q) ys
  class_alone q [] h = refl
  class_alone q (y ∷ ys) h = by (ties lt q y) refl (class_alone q ys (rest_ascending lt weak_chain y ys h))
    where
      weak_chain : (x y z : A) → lt x y ≡ true → lt y z ≡ true → lt x z ≡ true
      weak_chain x y z e f = elim (true_or_false (lt x z)) [
        | inl p ↦ p
        | inr p ↦ (let r : lt x y ≡ false = weak.chain x z y p (weak.one_way y z f) in cc)
      ]

      by : (b : Bool) → ties lt q y ≡ b → first_only (filter (ties lt q) ys) ≡ filter (ties lt q) ys
          → first_only (cond b (y ∷ filter (ties lt q) ys) (filter (ties lt q) ys)) ≡ cond b (y ∷ filter (ties lt q) ys) (filter (ties lt q) ys)
      by false t e = e
      by true t e = ap (λ (l : List A). y ∷ l) (sym (filter_nothing (ties lt q) ys (λ z i. elim (true_or_false (ties lt q z)) [
        | inl s ↦ absurd (let u : ties lt y z ≡ true = tie_chain y q z (tie_back q y t) s in
            let v = tied_not_apart y z u in
            let w : lt y z ≡ true = first_below lt weak_chain y z ys h i in
            cc)
        | inr s ↦ s
      ])))

  -- a part in order is joined with what was gathered before
  pub gathered_more : (xs ys : List A) → ascending lt ys ≡ true → joined lt (sorted lt (first_each lt xs)) ys ≡ sorted lt (first_each lt (xs ++ ys))
  gathered_more xs ys h =
      one_outcome lt weak (joined lt (sorted lt (first_each lt xs)) ys) (sorted lt (first_each lt (xs ++ ys)))
      (sorted_rising lt weak (sorted lt (first_each lt xs) ++ fresh_of lt weak (sorted lt (first_each lt xs)) ys)) (sorted_rising lt weak (first_each lt (xs ++ ys))) same
    where
      same : (q : A) → filter (ties lt q) (joined lt (sorted lt (first_each lt xs)) ys) ≡ filter (ties lt q) (sorted lt (first_each lt (xs ++ ys)))
      same q =
          class_sorted lt weak q (sorted lt (first_each lt xs) ++ fresh_of lt weak (sorted lt (first_each lt xs)) ys)
          ∙ class_chosen lt weak q (sorted lt (first_each lt xs)) ys
          ∙ ap (λ (us : List A). chosen us (filter (ties lt q) ys)) (class_sorted lt weak q (first_each lt xs) ∙ class_first q xs)
          ∙ ap (chosen (first_only (filter (ties lt q) xs))) (sym (class_alone q ys h))
          ∙ sym (class_sorted lt weak q (first_each lt (xs ++ ys)) ∙ class_first q (xs ++ ys)
          ∙ ap first_only (filter_joined (ties lt q) xs ys) ∙ first_of_two (filter (ties lt q) xs) (filter (ties lt q) ys))
