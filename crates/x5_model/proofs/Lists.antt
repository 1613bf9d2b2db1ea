-- What the words on lists say, by members.
use Rattle.std.proofs.Common.{◌≡◌, Bool, true, false, cond, not, ◌&&◌, ◌||◌, ◌⊎◌, inl, inr, List, [], ◌∷◌, ◌++◌, map, refl, sym, ap, subst, ◌∙◌, Option, Some, None}
use Rattle.std.specs.Bool.{Decides}
use Rattle.std.specs.List.{list_any, list_all, filter, find, flat_map}
use Rattle.x5_model.specs.Words.{has, when}
use Rattle.x5_model.specs.Members.{In, here, there, Once}

-- ---- tests

pub both_true : (a b : Bool) → (a && b) ≡ true → (a ≡ true) × (b ≡ true)
both_true true b e = (refl, e)
both_true false b e = cc

pub and_true : (a b : Bool) → a ≡ true → b ≡ true → (a && b) ≡ true
and_true a b p q = λ i. p i && q i

pub either_true : (a b : Bool) → (a || b) ≡ true → (a ≡ true) ⊎ (b ≡ true)
either_true true b e = inl refl
either_true false b e = inr e

pub or_left : (a b : Bool) → a ≡ true → (a || b) ≡ true
or_left true b e = refl
or_left false b e = cc

pub or_right : (a b : Bool) → b ≡ true → (a || b) ≡ true
or_right true b e = refl
or_right false b e = e

pub not_true : (a : Bool) → not a ≡ true → a ≡ false
not_true true e = cc
not_true false e = refl

pub not_false : (a : Bool) → not a ≡ false → a ≡ true
not_false true e = refl
not_false false e = cc

pub true_or_false : (a : Bool) → (a ≡ true) ⊎ (a ≡ false)
true_or_false true = inl refl
true_or_false false = inr refl

-- ---- membership

pub in_first : {A : Type 0} (z x : A) (xs : List A) → In z (x ∷ xs) → (z ≡ x) ⊎ In z xs
in_first z x xs here = inl refl
in_first z x xs (there i) = inr i

pub in_left : {A : Type 0} (z : A) (xs ys : List A) → In z xs → In z (xs ++ ys)
in_left z [] ys i = elim i [ ]
in_left z (x ∷ xs) ys here = here
in_left z (x ∷ xs) ys (there i) = there (in_left z xs ys i)

pub in_right : {A : Type 0} (z : A) (xs ys : List A) → In z ys → In z (xs ++ ys)
in_right z [] ys i = i
in_right z (x ∷ xs) ys i = there (in_right z xs ys i)

pub in_either : {A : Type 0} (z : A) (xs ys : List A) → In z (xs ++ ys) → In z xs ⊎ In z ys
in_either z [] ys i = inr i
in_either z (x ∷ xs) ys here = inl here
in_either z (x ∷ xs) ys (there i) = elim (in_either z xs ys i) [ inl j ↦ inl (there j) | inr j ↦ inr j ]

pub in_map : {A B : Type 0} (f : A → B) (z : A) (xs : List A) → In z xs → In (f z) (map f xs)
in_map f z [] i = elim i [ ]
in_map f z (x ∷ xs) here = here
in_map f z (x ∷ xs) (there i) = there (in_map f z xs i)

pub of_map : {A B : Type 0} (f : A → B) (y : B) (xs : List A) → In y (map f xs) → (x : A) × In x xs × (y ≡ f x)
of_map f y [] i = elim i [ ]
of_map f y (x ∷ xs) i =
    elim (in_first y (f x) (map f xs) i) [ inl e ↦ (x, here, e) | inr j ↦ (let w = of_map f y xs j in (w.0, there w.1, w.2)) ]

pub in_flat : {A B : Type 0} (f : A → List B) (y : B) (x : A) (xs : List A) → In x xs → In y (f x) → In y (flat_map f xs)
in_flat f y x [] i j = elim i [ ]
in_flat f y x (z ∷ xs) here j = in_left y (f x) (flat_map f xs) j
in_flat f y x (z ∷ xs) (there i) j = in_right y (f z) (flat_map f xs) (in_flat f y x xs i j)

pub of_flat : {A B : Type 0} (f : A → List B) (y : B) (xs : List A) → In y (flat_map f xs) → (x : A) × In x xs × In y (f x)
of_flat f y [] i = elim i [ ]
of_flat f y (x ∷ xs) i =
    elim (in_either y (f x) (flat_map f xs) i) [ inl j ↦ (x, here, j) | inr j ↦ (let w = of_flat f y xs j in (w.0, there w.1, w.2)) ]

module _ {A : Type 0} (test : A → Bool) where
  pub any_in : (x : A) (xs : List A) → In x xs → test x ≡ true → list_any test xs ≡ true
  any_in x [] i e = elim i [ ]
  any_in x (y ∷ xs) here e = or_left (test x) (list_any test xs) e
  any_in x (y ∷ xs) (there i) e = or_right (test y) (list_any test xs) (any_in x xs i e)

  pub of_any : (xs : List A) → list_any test xs ≡ true → (x : A) × In x xs × (test x ≡ true)
  of_any [] e = cc
  of_any (x ∷ xs) e =
      elim (either_true (test x) (list_any test xs) e) [ inl p ↦ (x, here, p) | inr p ↦ (let w = of_any xs p in (w.0, there w.1, w.2)) ]

  pub none_of : (x : A) (xs : List A) → list_any test xs ≡ false → In x xs → test x ≡ false
  none_of x xs e i =
      elim (true_or_false (test x)) [ inl p ↦ (let q : list_any test xs ≡ true = any_in x xs i p in cc) | inr p ↦ p ]

  pub of_all : (x : A) (xs : List A) → list_all test xs ≡ true → In x xs → test x ≡ true
  of_all x [] e i = elim i [ ]
  of_all x (y ∷ xs) e here = (both_true (test x) (list_all test xs) e).0
  of_all x (y ∷ xs) e (there i) = of_all x xs (both_true (test y) (list_all test xs) e).1 i

  pub all_in : (xs : List A) → ((x : A) → In x xs → test x ≡ true) → list_all test xs ≡ true
  all_in [] f = refl
  all_in (x ∷ xs) f = and_true (test x) (list_all test xs) (f x here) (all_in xs (λ y i. f y (there i)))

  kept : (b : Bool) (x y : A) (rest : List A) → In x rest → In x (cond b (y ∷ rest) rest)
  kept true x y rest i = there i
  kept false x y rest i = i

  pub in_filter : (x : A) (xs : List A) → In x xs → test x ≡ true → In x (filter test xs)
  in_filter x [] i e = elim i [ ]
  in_filter x (y ∷ xs) here e = subst (λ (b : Bool). In x (cond b (x ∷ filter test xs) (filter test xs))) (sym e) here
  in_filter x (y ∷ xs) (there i) e = kept (test y) x y (filter test xs) (in_filter x xs i e)

  of_kept : (b : Bool) (x y : A) (rest : List A) → In x (cond b (y ∷ rest) rest) → ((x ≡ y) × (b ≡ true)) ⊎ In x rest
  of_kept true x y rest i = elim (in_first x y rest i) [ inl p ↦ inl (p, refl) | inr j ↦ inr j ]
  of_kept false x y rest i = inr i

  pub of_filter : (x : A) (xs : List A) → In x (filter test xs) → In x xs × (test x ≡ true)
  of_filter x [] i = elim i [ ]
  of_filter x (y ∷ xs) i =
      elim (of_kept (test y) x y (filter test xs) i) [
        | inl w ↦ (subst (λ (z : A). In x (z ∷ xs)) w.0 here, ap test w.0 ∙ w.1)
        | inr j ↦ (let w = of_filter x xs j in (there w.0, w.1))
      ]

  of_found : (b : Bool) (x y : A) (rest : Option A) → cond b (Some y) rest ≡ Some x → ((x ≡ y) × (b ≡ true)) ⊎ (rest ≡ Some x)
  of_found true x y rest e = inl (let s : y ≡ x = cc in sym s, refl)
  of_found false x y rest e = inr e

  pub of_find : (x : A) (xs : List A) → find test xs ≡ Some x → In x xs × (test x ≡ true)
  of_find x [] e = cc
  of_find x (y ∷ xs) e =
      elim (of_found (test y) x y (find test xs) e) [
        | inl w ↦ (subst (λ (z : A). In x (z ∷ xs)) w.0 here, ap test w.0 ∙ w.1)
        | inr q ↦ (let w = of_find x xs q in (there w.0, w.1))
      ]

  of_none : (b : Bool) (y : A) (rest : Option A) → cond b (Some y) rest ≡ None → (b ≡ false) × (rest ≡ None)
  of_none true y rest e = cc
  of_none false y rest e = (refl, e)

  pub not_found : (x : A) (xs : List A) → find test xs ≡ None → In x xs → test x ≡ false
  not_found x [] e i = elim i [ ]
  not_found x (y ∷ xs) e i =
      let w = of_none (test y) y (find test xs) e in
      elim (in_first x y xs i) [ inl s ↦ ap test s ∙ w.0 | inr j ↦ not_found x xs w.1 j ]

-- a test that decides sameness makes `has` membership
module _ {A : Type 0} (same : A → A → Bool) (decides : (x y : A) → Decides (same x y) (x ≡ y)) where
  pub has_in : (x : A) (xs : List A) → In x xs → has same xs x ≡ true
  has_in x [] i = elim i [ ]
  has_in x (y ∷ xs) here = or_left (same x x) (has same xs x) ((decides x x).1 refl)
  has_in x (y ∷ xs) (there i) = or_right (same y x) (has same xs x) (has_in x xs i)

  pub of_has : (x : A) (xs : List A) → has same xs x ≡ true → In x xs
  of_has x [] e = cc
  of_has x (y ∷ xs) e =
      elim (either_true (same y x) (has same xs x) e) [
        | inl p ↦ subst (λ (z : A). In x (z ∷ xs)) (sym ((decides y x).0 p)) here
        | inr p ↦ there (of_has x xs p)
      ]

-- ---- lists that are empty

pub left_empty : {A : Type 0} (xs ys : List A) → xs ++ ys ≡ [] → xs ≡ []
left_empty [] ys e = refl
left_empty (x ∷ xs) ys e = cc

pub right_empty : {A : Type 0} (xs ys : List A) → xs ++ ys ≡ [] → ys ≡ []
right_empty [] ys e = e
right_empty (x ∷ xs) ys e = cc

pub flat_empty : {A B : Type 0} (f : A → List B) (x : A) (xs : List A) → flat_map f xs ≡ [] → In x xs → f x ≡ []
flat_empty f x [] e i = elim i [ ]
flat_empty f x (y ∷ xs) e here = left_empty (f x) (flat_map f xs) e
flat_empty f x (y ∷ xs) e (there i) = flat_empty f x xs (right_empty (f y) (flat_map f xs) e) i

pub empty_flat : {A B : Type 0} (f : A → List B) (xs : List A) → ((x : A) → In x xs → f x ≡ []) → flat_map f xs ≡ []
empty_flat f [] g = refl
empty_flat {A} {B} f (x ∷ xs) g = ap (λ (ys : List B). ys ++ flat_map f xs) (g x here) ∙ empty_flat f xs (λ y i. g y (there i))

pub when_empty : {A : Type 0} (b : Bool) (x : A) → when b x ≡ [] → b ≡ false
when_empty true x e = cc
when_empty false x e = refl

pub empty_when : {A : Type 0} (b : Bool) (x : A) → b ≡ false → when b x ≡ []
empty_when true x e = cc
empty_when false x e = refl

-- ---- members that are there once

pub once_map : {A B : Type 0} (f : A → B) (xs : List A) (x y : A) → Once (map f xs) → In x xs → In y xs → f x ≡ f y → x ≡ y
once_map {A} {B} f [] x y h i j e = elim i [ ]
once_map {A} {B} f (z ∷ xs) x y h i j e =
    elim (in_first x z xs i) [
      | inl p ↦ elim (in_first y z xs j) [
        | inl q ↦ p ∙ sym q
        | inr l ↦ absurd (h.0 (subst (λ (b : B). In b (map f xs)) (sym e ∙ ap f p) (in_map f y xs l)))
      ]
      | inr k ↦ elim (in_first y z xs j) [
        | inl q ↦ absurd (h.0 (subst (λ (b : B). In b (map f xs)) (e ∙ ap f q) (in_map f x xs k)))
        | inr l ↦ once_map f xs x y h.1 k l e
      ]
    ]
