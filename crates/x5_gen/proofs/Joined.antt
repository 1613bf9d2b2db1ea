-- Pieces with a byte between each two, as they are joined.
use Rattle.std.proofs.Common.{◌≡◌, ℕ, List, [], ◌∷◌, ◌++◌, map, refl, ap, rules}
use Rattle.std.specs.List.{flat_map, join_by, join_with_byte}

pub joined_is : {X : Type 0} (f : X → List ℕ) (c : ℕ) (xs : List X) → join_by f (c ∷ []) xs ≡ join_with_byte c (map f xs)
joined_is f c [] = refl
joined_is f c (x ∷ xs) = rest f c x xs
  where
    rest : {X : Type 0} (f : X → List ℕ) (c : ℕ) (x : X) (xs : List X) → f x ++ flat_map (λ y. c ∷ f y) xs ≡ join_with_byte c (f x ∷ map f xs)
    rest f c x [] = search rules
    rest f c x (y ∷ ys) = ap (λ t. f x ++ (c ∷ t)) (rest f c y ys)
