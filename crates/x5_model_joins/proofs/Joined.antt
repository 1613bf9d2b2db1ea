-- Lists in order: what is shown of two of them, joined, is what is shown of their union, since a sorted list of members
-- that are apart is determined by its members.
use Rattle.std.proofs.Common.{◌≡◌, Bool, true, false, cond, not, ◌&&◌, ◌⊎◌, inl, inr, List, [], ◌∷◌, ◌++◌, map, refl, sym, ap, ◌∙◌}
use Rattle.std.specs.List.{filter, list_any}
use Rattle.x5_model.specs.Words.{ascending, insert_sorted, sorted}
use Rattle.x5_model.specs.Members.{In, here, there}
use Rattle.x5_model.proofs.Lists.{both_true, not_true, true_or_false, in_left, in_right, in_either, of_map, in_filter, of_filter, of_any}
use Rattle.x5_model.proofs.Ascending.{AllApart, of_sorted, in_sorted, rest_ascending, first_below, filter_ascending, sorted_ascending, one_list}
use Rattle.x5_model_serve.specs.Answering.{joined}

-- ---- maps and filters that agree on the members

pub map_same : {E X : Type 0} (f h : E → X) (xs : List E) → ((z : E) → In z xs → f z ≡ h z) → map f xs ≡ map h xs
map_same f h [] e = refl
map_same f h (x ∷ xs) e = λ i. e x here i ∷ map_same f h xs (λ z j. e z (there j)) i

pub filter_same : {E : Type 0} (t u : E → Bool) (xs : List E) → ((z : E) → In z xs → t z ≡ u z) → filter t xs ≡ filter u xs
filter_same t u [] e = refl
filter_same t u (x ∷ xs) e = λ i. cond (e x here i) (x ∷ filter_same t u xs (λ z j. e z (there j)) i) (filter_same t u xs (λ z j. e z (there j)) i)

pub filter_all : {E : Type 0} (t : E → Bool) (xs : List E) → ((z : E) → In z xs → t z ≡ true) → filter t xs ≡ xs
filter_all t [] e = refl
filter_all t (x ∷ xs) e = λ i. cond (e x here i) (x ∷ filter_all t xs (λ z j. e z (there j)) i) (filter_all t xs (λ z j. e z (there j)) i)

pub map_joined : {A B : Type 0} (f : A → B) (xs ys : List A) → map f (xs ++ ys) ≡ map f xs ++ map f ys
map_joined f [] ys = refl
map_joined f (x ∷ xs) ys = ap (λ zs. f x ∷ zs) (map_joined f xs ys)

-- ---- sorting what is shown, where that is ordered alike

module _ {E X : Type 0} (low : E → E → Bool) (below : X → X → Bool) (h : E → X) where
  put : (b : Bool) (x y : E) (ys rest : List E) (more : List X) → more ≡ map h rest → cond b (h y ∷ more) (h x ∷ h y ∷ map h ys) ≡ map h (cond b (y ∷ rest) (x ∷ y ∷ ys))
  put true x y ys rest more e = ap (λ zs. h y ∷ zs) e
  put false x y ys rest more e = refl

  insert_map : (x : E) (ys : List E) → ((y : E) → In y ys → below (h y) (h x) ≡ low y x) → insert_sorted below (h x) (map h ys) ≡ map h (insert_sorted low x ys)
  insert_map x [] f = refl
  insert_map x (y ∷ ys) f =
      ap (λ b. cond b (h y ∷ insert_sorted below (h x) (map h ys)) (h x ∷ h y ∷ map h ys)) (f y here)
      ∙ put (low y x) x y ys (insert_sorted low x ys) (insert_sorted below (h x) (map h ys)) (insert_map x ys (λ z i. f z (there i)))

  pub sorted_map : (xs : List E) → ((x y : E) → In x xs → In y xs → below (h x) (h y) ≡ low x y) → sorted below (map h xs) ≡ map h (sorted low xs)
  sorted_map [] f = refl
  sorted_map (x ∷ xs) f =
      ap (insert_sorted below (h x)) (sorted_map xs (λ y z i j. f y z (there i) (there j)))
      ∙ insert_map x (sorted low xs) (λ y i. f y x (there (of_sorted low y xs i)) here)

-- ---- members that are apart

-- each of the one list is apart from each of the other
abbrev pub Across : {A : Type 0} → (A → A → Bool) → List A → List A → Type 0
Across {A} below xs ys = (x y : A) → In x xs → In y ys → (below x y ≡ true) ⊎ (below y x ≡ true)

module _ {A : Type 0} (below : A → A → Bool) where
  pub apart_joined : (xs ys : List A) → AllApart below xs → AllApart below ys → Across below xs ys → AllApart below (xs ++ ys)
  apart_joined [] ys a b c = b
  apart_joined (x ∷ xs) ys a b c = (
    λ z i. elim (in_either z xs ys i) [ inl j ↦ a.0 z j | inr j ↦ c x z here j ],
    apart_joined xs ys a.1 b (λ y z i j. c y z (there i) j),
  )

  -- the keep-first join is the sorted union where the lists are apart
  pub joined_apart : (xs ys : List A) → Across below xs ys → joined below xs ys ≡ sorted below (xs ++ ys)
  joined_apart xs ys c = ap (λ zs. sorted below (xs ++ zs)) (filter_all _ ys new)
    where
      new : (y : A) → In y ys → not (list_any (λ x. not (below x y) && not (below y x)) xs) ≡ true
      new y i = elim (true_or_false (list_any (λ x. not (below x y) && not (below y x)) xs)) [
        | inl p ↦ (let w = of_any (λ x. not (below x y) && not (below y x)) xs p in
            let b = both_true (not (below w.0 y)) (not (below y w.0)) w.2 in
            elim (c w.0 y w.1 i) [
              | inl q ↦ (let n : below w.0 y ≡ false = not_true _ b.0 in cc)
              | inr q ↦ (let n : below y w.0 ≡ false = not_true _ b.1 in cc)
            ])
        | inr p ↦ ap not p
      ]

module _ {A : Type 0} (below : A → A → Bool) (chain : (x y z : A) → below x y ≡ true → below y z ≡ true → below x z ≡ true) where
  pub apart_ascending : (xs : List A) → ascending below xs ≡ true → AllApart below xs
  apart_ascending [] h = tt
  apart_ascending (x ∷ xs) h = ((λ z i. inl (first_below below chain x z xs h i)), apart_ascending xs (rest_ascending below chain x xs h))

-- ---- what is shown of a sorted union, of the members that pass a test

module _ {E X : Type 0} (low : E → E → Bool) (below : X → X → Bool)
    (chain : (x y z : E) → low x y ≡ true → low y z ≡ true → low x z ≡ true) (never : (x : E) → low x x ≡ true → ⊥) where
  -- those of the sorted list that pass a test
  abbrev pub picked : (E → Bool) → List E → List E
  picked t xs = filter t (sorted low xs)

  pub of_picked : (t : E → Bool) (z : E) (zs : List E) → In z (picked t zs) → In z zs × (t z ≡ true)
  of_picked t z zs i = let w = of_filter t z (sorted low zs) i in (of_sorted low z zs w.0, w.1)

  in_picked : (t : E → Bool) (z : E) (zs : List E) → In z zs → t z ≡ true → In z (picked t zs)
  in_picked t z zs i e = in_filter t z (sorted low zs) (in_sorted low z zs i) e

  pub picked_ascending : (t : E → Bool) (zs : List E) → AllApart low zs → ascending low (picked t zs) ≡ true
  picked_ascending t zs d = filter_ascending low chain t (sorted low zs) (sorted_ascending low chain zs d)

  picked_apart : (t : E → Bool) (zs : List E) → AllApart low zs → AllApart low (picked t zs)
  picked_apart t zs d = apart_ascending low chain (picked t zs) (picked_ascending t zs d)

  chosen : (t : E → Bool) (xs ys : List E) → AllApart low xs → AllApart low ys → Across low xs ys
      → sorted low (picked t xs ++ picked t ys) ≡ picked t (xs ++ ys)
  chosen t xs ys a b c =
      one_list low chain never (sorted low (picked t xs ++ picked t ys)) (picked t (xs ++ ys))
      (sorted_ascending low chain (picked t xs ++ picked t ys) (apart_joined low (picked t xs) (picked t ys) (picked_apart t xs a) (picked_apart t ys b) (λ x y i j. c x y (of_picked t x xs i).0 (of_picked t y ys j).0)))
      (picked_ascending t (xs ++ ys) (apart_joined low xs ys a b c)) to from
    where
      to : (z : E) → In z (sorted low (picked t xs ++ picked t ys)) → In z (picked t (xs ++ ys))
      to z i = elim (in_either z (picked t xs) (picked t ys) (of_sorted low z (picked t xs ++ picked t ys) i)) [
        | inl j ↦ (let w = of_picked t z xs j in in_picked t z (xs ++ ys) (in_left z xs ys w.0) w.1)
        | inr j ↦ (let w = of_picked t z ys j in in_picked t z (xs ++ ys) (in_right z xs ys w.0) w.1)
      ]

      from : (z : E) → In z (picked t (xs ++ ys)) → In z (sorted low (picked t xs ++ picked t ys))
      from z i = (let w = of_picked t z (xs ++ ys) i in in_sorted low z (picked t xs ++ picked t ys) (elim (in_either z xs ys w.0) [
        | inl j ↦ in_left z (picked t xs) (picked t ys) (in_picked t z xs j w.1)
        | inr j ↦ in_right z (picked t xs) (picked t ys) (in_picked t z ys j w.1)
      ]))

  -- the kernel: two lists of members that are apart, of each some that pass its test, shown in its way; joined they are the
  -- same of the union, where the tests and the ways agree with the whole's
  pub shown_joined : (f g h : E → X) (tx ty t : E → Bool) (xs ys : List E) → AllApart low xs → AllApart low ys → Across low xs ys
      → ((e : E) → In e xs → tx e ≡ t e) → ((e : E) → In e ys → ty e ≡ t e)
      → ((e : E) → In e xs → f e ≡ h e) → ((e : E) → In e ys → g e ≡ h e)
      → ((d e : E) → t d ≡ true → t e ≡ true → below (h d) (h e) ≡ low d e)
      → joined below (map f (filter tx (sorted low xs))) (map g (filter ty (sorted low ys))) ≡ map h (filter t (sorted low (xs ++ ys)))
  shown_joined f g h tx ty t xs ys a b c ex ey fx gy order =
      (λ i. joined below (one i) (two i))
      ∙ joined_apart below (map h (picked t xs)) (map h (picked t ys)) across
      ∙ ap (sorted below) (sym (map_joined h (picked t xs) (picked t ys)))
      ∙ sorted_map low below h (picked t xs ++ picked t ys) (λ d e i j. order d e (passed d i) (passed e j))
      ∙ ap (map h) (chosen t xs ys a b c)
    where
      one : map f (filter tx (sorted low xs)) ≡ map h (picked t xs)
      one = ap (map f) (filter_same tx t (sorted low xs) (λ z i. ex z (of_sorted low z xs i))) ∙ map_same f h (picked t xs) (λ z i. fx z (of_picked t z xs i).0)

      two : map g (filter ty (sorted low ys)) ≡ map h (picked t ys)
      two = ap (map g) (filter_same ty t (sorted low ys) (λ z i. ey z (of_sorted low z ys i))) ∙ map_same g h (picked t ys) (λ z i. gy z (of_picked t z ys i).0)

      passed : (z : E) → In z (picked t xs ++ picked t ys) → t z ≡ true
      passed z i = elim (in_either z (picked t xs) (picked t ys) i) [ inl j ↦ (of_picked t z xs j).1 | inr j ↦ (of_picked t z ys j).1 ]

      across : Across below (map h (picked t xs)) (map h (picked t ys))
      across x y i j =
          let d = of_map h x (picked t xs) i in
          let e = of_map h y (picked t ys) j in
          let u = of_picked t d.0 xs d.1 in
          let v = of_picked t e.0 ys e.1 in
          elim (c d.0 e.0 u.0 v.0) [
            | inl p ↦ inl ((λ i. below (d.2 i) (e.2 i)) ∙ order d.0 e.0 u.1 v.1 ∙ p)
            | inr p ↦ inr ((λ i. below (e.2 i) (d.2 i)) ∙ order e.0 d.0 v.1 u.1 ∙ p)
          ]
