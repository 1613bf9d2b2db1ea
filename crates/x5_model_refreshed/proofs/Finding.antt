-- What is found in a list that is mapped or of which only some are kept; and a mapped list that changes at one place.
use Rattle.std.proofs.Common.{◌≡◌, ℕ, zero, suc, Bool, true, false, cond, ◌&&◌, List, [], ◌∷◌, ◌++◌, map, refl, sym, ap, subst, ◌∙◌, Option, Some, None, slice_get}
use Rattle.std.specs.Prelude.{slice_set}
use Rattle.std.specs.List.{filter, find}
use Rattle.std.specs.Option.{option_map}
use Rattle.x5_model.specs.Members.{In, Once, here, there}
use Rattle.x5_model.proofs.Lists.{in_left, in_map, of_find, not_found}

pub map_alike : {A B : Type 0} (f g : A → B) (xs : List A) → ((x : A) → In x xs → f x ≡ g x) → map f xs ≡ map g xs
map_alike f g [] h = refl
map_alike f g (x ∷ xs) h = (λ i. h x here i ∷ map_alike f g xs (λ y j. h y (there j)) i)

pub filter_alike : {A : Type 0} (f g : A → Bool) (xs : List A) → ((x : A) → In x xs → f x ≡ g x) → filter f xs ≡ filter g xs
filter_alike f g [] h = refl
filter_alike f g (x ∷ xs) h = (λ i. cond (h x here i) (x ∷ filter_alike f g xs (λ y j. h y (there j)) i) (filter_alike f g xs (λ y j. h y (there j)) i))

-- ---- what is found

pub find_map : {A B : Type 0} (f : A → B) (test : B → Bool) (xs : List A) → find test (map f xs) ≡ option_map f (find (λ x. test (f x)) xs)
find_map f test [] = refl
find_map {A} {B} f test (x ∷ xs) = by (test (f x)) (find_map f test xs)
  where
    by : (b : Bool) → find test (map f xs) ≡ option_map f (find (λ y. test (f y)) xs)
        → cond b (Some (f x)) (find test (map f xs)) ≡ option_map f (cond b (Some x) (find (λ y. test (f y)) xs))
    by true e = refl
    by false e = e

pub find_alike : {A : Type 0} (test other : A → Bool) (xs : List A) → ((x : A) → test x ≡ other x) → find test xs ≡ find other xs
find_alike test other [] h = refl
find_alike test other (x ∷ xs) h = (λ i. cond (h x i) (Some x) (find_alike test other xs h i))

pub find_kept : {A : Type 0} (keep test : A → Bool) (xs : List A) → find test (filter keep xs) ≡ find (λ x. keep x && test x) xs
find_kept keep test [] = refl
find_kept {A} keep test (x ∷ xs) = by (keep x) (find_kept keep test xs)
  where
    by : (b : Bool) → find test (filter keep xs) ≡ find (λ y. keep y && test y) xs
        → find test (cond b (x ∷ filter keep xs) (filter keep xs)) ≡ cond (b && test x) (Some x) (find (λ y. keep y && test y) xs)
    by true e = ap (cond (test x) (Some x)) e
    by false e = e

-- the one that passes is found
pub find_only : {A : Type 0} (test : A → Bool) (x : A) (xs : List A) → In x xs → test x ≡ true → ((y : A) → In y xs → test y ≡ true → y ≡ x)
    → find test xs ≡ Some x
find_only {A} test x xs i e only = by (find test xs) refl
  where
    by : (o : Option A) → find test xs ≡ o → o ≡ Some x
    by None q = (let n : test x ≡ false = not_found test x xs q i in let both : true ≡ false = sym e ∙ n in cc)
    by (Some y) q = (let w = of_find test y xs q in ap (λ (z : A). Some z) (only y w.0 w.1))

-- ---- by places

pub get_in : {A : Type 0} (xs : List A) (place : ℕ) (x : A) → slice_get xs place ≡ Some x → In x xs
get_in [] place x e = cc
get_in {A} (y ∷ ys) zero x e = (let same : y ≡ x = cc in subst (λ (z : A). In z (y ∷ ys)) same here)
get_in (y ∷ ys) (suc n) x e = there (get_in ys n x e)

pub get_map : {A B : Type 0} (f : A → B) (xs : List A) (place : ℕ) (y : B) → slice_get (map f xs) place ≡ Some y
    → (x : A) × (slice_get xs place ≡ Some x) × (y ≡ f x)
get_map f [] place y e = cc
get_map f (x ∷ xs) zero y e = (x, refl, (let same : f x ≡ y = cc in sym same))
get_map f (x ∷ xs) (suc n) y e = get_map f xs n y e

-- two maps of a list that differ at one member alone differ at its place
pub changed_at : {A B K : Type 0} (f g : A → B) (key : A → K) (xs : List A) (place : ℕ) (x : A) → Once (map key xs) → slice_get xs place ≡ Some x
    → ((y : A) → In y xs → (key y ≡ key x → ⊥) → g y ≡ f y) → map g xs ≡ slice_set (map f xs) place (g x)
changed_at f g key [] place x once e h = cc
changed_at {A} {B} {K} f g key (y ∷ ys) zero x once e h =
    let same : y ≡ x = cc in
    let rest : map g ys ≡ map f ys =
    map_alike g f ys (λ z i. h z (there i) (λ q. once.0 (subst (λ (k : K). In k (map key ys)) (q ∙ ap key (sym same)) (in_map key z ys i)))) in
    (λ i. g (same i) ∷ rest i)
changed_at {A} {B} {K} f g key (y ∷ ys) (suc n) x once e h =
    let first : g y ≡ f y =
    h y here (λ q. once.0 (subst (λ (k : K). In k (map key ys)) (sym q) (in_map key x ys (get_in ys n x e)))) in
    let rest = changed_at f g key ys n x once.1 e (λ z i. h z (there i)) in
    (λ i. first i ∷ rest i)

-- ---- members that are there once

pub once_left : {A : Type 0} (xs ys : List A) → Once (xs ++ ys) → Once xs
once_left [] ys h = tt
once_left (x ∷ xs) ys h = (λ i. h.0 (in_left x xs ys i), once_left xs ys h.1)

pub once_right : {A : Type 0} (xs ys : List A) → Once (xs ++ ys) → Once ys
once_right [] ys h = h
once_right (x ∷ xs) ys h = once_right xs ys h.1
