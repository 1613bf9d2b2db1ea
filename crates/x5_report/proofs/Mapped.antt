-- Maps of lists whose members go the same way, and of lists in order.
use Rattle.std.proofs.Common.{◌≡◌, ℕ, Bool, true, false, List, [], ◌∷◌, ◌++◌, map, refl, ap, ap₂, ◌∙◌, inl, inr}
use Rattle.std.specs.List.{flat_map}
use Rattle.x5_model.specs.Members.{In, here, there}
use Rattle.x5_model.specs.Words.{insert_sorted, sorted}
use Rattle.x5_model.proofs.Ascending.{of_insert}

pub flat_map_same : {A : Type 0} (f g : A → List ℕ) (xs : List A) → ((x : A) → In x xs → f x ≡ g x) → flat_map f xs ≡ flat_map g xs
flat_map_same f g [] h = refl
flat_map_same f g (x ∷ xs) h = ap₂ ◌++◌ (h x here) (flat_map_same f g xs (λ y i. h y (there i)))

pub map_same : {A B : Type 0} (f g : A → B) (xs : List A) → ((x : A) → In x xs → f x ≡ g x) → map f xs ≡ map g xs
map_same f g [] h = refl
map_same f g (x ∷ xs) h = ap₂ ◌∷◌ (h x here) (map_same f g xs (λ y i. h y (there i)))

-- what is in the sorted list is in the list
pub of_sorted : {A : Type 0} (below : A → A → Bool) (z : A) (xs : List A) → In z (sorted below xs) → In z xs
of_sorted below z [] i = i
of_sorted below z (x ∷ xs) i =
    elim (of_insert below z x (sorted below xs) i) [
      | inl p ↦ rw p here
      | inr j ↦ there (of_sorted below z xs j)
    ]

module _ {A B : Type 0} (f : A → B) (below : A → A → Bool) (above : B → B → Bool) where
  insert_map : (x : A) (ys : List A) → ((y : A) → In y ys → above (f y) (f x) ≡ below y x) → insert_sorted above (f x) (map f ys) ≡ map f (insert_sorted below x ys)
  insert_map x [] h = refl
  insert_map x (y ∷ ys) h = by (below y x) refl (insert_map x ys (λ z i. h z (there i)))
    where
      by : (b : Bool) → below y x ≡ b → insert_sorted above (f x) (map f ys) ≡ map f (insert_sorted below x ys) → insert_sorted above (f x) (map f (y ∷ ys)) ≡ map f (insert_sorted below x (y ∷ ys))
      by true e rest = rw (h y here, e) (ap (λ l. f y ∷ l) rest)
      by false e rest = rw (h y here, e) refl

  -- a list is sorted before or after a map that keeps the order
  pub sorted_map : (xs : List A) → ((x y : A) → In x xs → In y xs → above (f x) (f y) ≡ below x y) → sorted above (map f xs) ≡ map f (sorted below xs)
  sorted_map [] h = refl
  sorted_map (x ∷ xs) h =
      ap (insert_sorted above (f x)) (sorted_map xs (λ y z i j. h y z (there i) (there j)))
      ∙ insert_map x (sorted below xs) (λ y i. h y x (there (of_sorted below y xs i)) here)

pub map_twice : {A B C : Type 0} (f : A → B) (g : B → C) (xs : List A) → map g (map f xs) ≡ map (λ x. g (f x)) xs
map_twice f g [] = refl
map_twice f g (x ∷ xs) = ap (λ l. g (f x) ∷ l) (map_twice f g xs)
