-- Loops that add, for each member of a list, what it gives.
use Rattle.std.proofs.Common.{◌≡◌, ℕ, zero, suc, ◌+◌, ◌<◌, ◌≤◌, List, [], ◌∷◌, ◌++◌, map, length, drop, get_or, append_assoc, append-nil, refl, sym, ap, subst, ◌∙◌, arith, Option, Some, None, Result, Ok, Err, OnOk}
use Rattle.std.specs.List.{flat_map, slice_get}
use Rattle.std.specs.Option.{option_map}
use Rattle.x5_model.specs.Words.{in_option}
use Rattle.x5_model.specs.References.{Reference}
use Rattle.x5_model.proofs.Lists.{in_left, in_right}
use Rattle.x5_ops.proofs.Dropping.{drop_at}
use Rattle.x5_eval.specs.Rest.{AreKnown, at_place}

pub none_left : {A : Type 0} (xs : List A) (i : ℕ) → length xs ≤ i → drop i xs ≡ []
none_left [] zero l = refl
none_left [] (suc i) l = refl
none_left (x ∷ xs) zero l = absurd (omega arith)
none_left (x ∷ xs) (suc i) l = none_left xs i (omega arith)

pub map_more : {A B : Type 0} (f : A → B) (xs : List A) (x : A) → map f (xs ++ x ∷ []) ≡ map f xs ++ f x ∷ []
map_more f [] x = refl
map_more {A} {B} f (y ∷ xs) x = ap (λ (l : List B). f y ∷ l) (map_more f xs x)

module _ {A B : Type 0} (f : A → List B) (xs : List A) (i : ℕ) where
  -- what the next one gives is added
  pub one_more : (x : A) (acc new all : List B) → i < length xs → x ≡ get_or xs i x
      → acc ++ flat_map f (drop i xs) ≡ all → new ≡ acc ++ f x → new ++ flat_map f (drop (i + 1) xs) ≡ all
  one_more x acc new all l is so e =
      ap (λ (r : List B). r ++ flat_map f (drop (i + 1) xs)) e
      ∙ append_assoc acc (f x) (flat_map f (drop (i + 1) xs))
      ∙ ap (λ (r : List A). acc ++ flat_map f r) (sym (drop_at xs i x l is))
      ∙ so

  -- all is added
  pub all_there : (acc all : List B) → length xs ≤ i → acc ++ flat_map f (drop i xs) ≡ all → acc ≡ all
  all_there acc all l so =
      sym (append-nil acc) ∙ ap (λ (r : List A). acc ++ flat_map f r) (sym (none_left xs i l)) ∙ so

-- the same of references that name agents of a world that has so many
pub record Adds {A : Type 0} (n : ℕ) (f : A → List Reference) (all acc : List Reference) (left : List A) : Type 0 where
  pub so_far : acc ++ flat_map f left ≡ all
  pub known : AreKnown n (flat_map f left)

module _ {A : Type 0} (n : ℕ) (f : A → List Reference) (xs : List A) (i : ℕ) (x : A) (l : i < length xs) (is : x ≡ get_or xs i x) where
  known_left : AreKnown n (flat_map f (drop i xs)) → AreKnown n (f x ++ flat_map f (drop (i + 1) xs))
  known_left k = subst (λ (r : List A). AreKnown n (flat_map f r)) (drop_at xs i x l is) k

  pub next_known : AreKnown n (flat_map f (drop i xs)) → AreKnown n (f x)
  next_known k r j = known_left k r (in_left r (f x) (flat_map f (drop (i + 1) xs)) j)

  pub adds_more : (all acc new : List Reference) → Adds n f all acc (drop i xs) → new ≡ acc ++ f x
      → Adds n f all new (drop (i + 1) xs)
  adds_more all acc new a e = record {
    so_far = one_more f xs i x acc new all l is a.so_far e;
    known = λ r j. known_left a.known r (in_right r (f x) (flat_map f (drop (i + 1) xs)) j);
  }

pub adds_all : {A : Type 0} (n : ℕ) (f : A → List Reference) (xs : List A) (i : ℕ) (all acc : List Reference) → length xs ≤ i
    → Adds n f all acc (drop i xs) → acc ≡ all
adds_all n f xs i all acc l a = all_there f xs i acc all l a.so_far

-- ---- what is told at a place
pub get_mapped : {A B : Type 0} (v : A → B) (xs : List A) (i : ℕ) → slice_get (map v xs) i ≡ option_map v (slice_get xs i)
get_mapped v [] i = refl
get_mapped v (x ∷ xs) zero = refl
get_mapped v (x ∷ xs) (suc i) = get_mapped v xs i

pub some_at : {A B R : Type 0} (f : B → List R) (v : A → B) (xs : List A) (i : ℕ) (x : A) → slice_get xs i ≡ Some x
    → at_place f (map v xs) i ≡ f (v x)
some_at {A} {B} f v xs i x e =
    ap (λ (o : Option B). in_option [] f o) (get_mapped v xs i) ∙ ap (λ (o : Option A). in_option [] f (option_map v o)) e

pub none_at : {A B R : Type 0} (f : B → List R) (v : A → B) (xs : List A) (i : ℕ) → slice_get xs i ≡ None
    → at_place f (map v xs) i ≡ []
none_at {A} {B} f v xs i e =
    ap (λ (o : Option B). in_option [] f o) (get_mapped v xs i) ∙ ap (λ (o : Option A). in_option [] f (option_map v o)) e

pub map_twice : {A B C : Type 0} (f : A → B) (g : B → C) (xs : List A) → map g (map f xs) ≡ map (λ x. g (f x)) xs
map_twice f g [] = refl
map_twice {A} {B} {C} f g (x ∷ xs) = ap (λ (l : List C). g (f x) ∷ l) (map_twice f g xs)

pub on_ok : {X E : Type 0} (P Q : Type 0) → (P → Q) → (r : Result X E) → OnOk r P → OnOk r Q
on_ok P Q f (Ok x) p = f p
on_ok P Q f (Err e) p = p

pub no_more : {A : Type 0} (xs ys : List A) → ys ≡ [] → xs ≡ xs ++ ys
no_more {A} xs ys e = sym (append-nil xs) ∙ ap (λ (l : List A). xs ++ l) (sym e)
