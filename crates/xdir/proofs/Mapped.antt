-- A list seen member by member, at one place of it: what stands before, the member, and what stands behind.
use Rattle.std.proofs.Common.{◌≡◌, ◌<◌, ◌+◌, ◌++◌, ℕ, List, [], ◌∷◌, length, map, take, drop, get_or, refl, sym, ap, ◌∙◌, arith, append_assoc}
use Rattle.std.proofs.lemmas.List.{take_more, take-append-drop, length-take-le, length-map}

pub map-snoc : {X Y : Type 0} (view : X → Y) (xs : List X) (x : X) → map view (xs ++ x ∷ []) ≡ map view xs ++ view x ∷ []
map-snoc view [] x = refl
map-snoc {Y = Y} view (y ∷ ys) x = ap (λ (more : List Y). view y ∷ more) (map-snoc view ys x)

map-both : {X Y : Type 0} (view : X → Y) (xs ys : List X) → map view (xs ++ ys) ≡ map view xs ++ map view ys
map-both view [] ys = refl
map-both {Y = Y} view (x ∷ xs) ys = ap (λ (more : List Y). view x ∷ more) (map-both view xs ys)

module _ {X Y : Type 0} (view : X → Y) (xs : List X) (i : ℕ) (x : X) (within : i < length xs) (is : x ≡ get_or xs i x) where
  pub first_more : map view (take (i + 1) xs) ≡ map view (take i xs) ++ view x ∷ []
  first_more =
      ap (map view) (take_more xs i x within ∙ ap (λ (y : X). take i xs ++ y ∷ []) (sym is)) ∙ map-snoc view (take i xs) x

  pub around : map view xs ≡ map view (take i xs) ++ view x ∷ map view (drop (i + 1) xs)
  around =
      ap (map view) (sym (take-append-drop (i + 1) xs))
      ∙ map-both view (take (i + 1) xs) (drop (i + 1) xs)
      ∙ ap (λ (first : List Y). first ++ map view (drop (i + 1) xs)) first_more
      ∙ append_assoc (map view (take i xs)) (view x ∷ []) (map view (drop (i + 1) xs))

  pub so_many : length (map view (take i xs)) ≡ i
  so_many = length-map (take i xs) view ∙ length-take-le i xs (omega arith)
