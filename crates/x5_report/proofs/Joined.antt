-- Pieces with a byte between each two, as they are joined.
use Rattle.std.proofs.Common.{◌≡◌, ℕ, List, [], ◌∷◌, ◌++◌, ◌+◌, ◌<◌, length, drop, get_or, drop-cons, add-one, map, refl, sym, ap, ◌∙◌, rules, append_assoc}
use Rattle.std.specs.List.{flat_map, join_by, join_with_byte}

pub joined_is : {X : Type 0} (f : X → List ℕ) (c : ℕ) (xs : List X) → join_by f (c ∷ []) xs ≡ join_with_byte c (map f xs)
joined_is f c [] = refl
joined_is f c (x ∷ xs) = rest f c x xs
  where
    rest : {X : Type 0} (f : X → List ℕ) (c : ℕ) (x : X) (xs : List X) → f x ++ flat_map (λ y. c ∷ f y) xs ≡ join_with_byte c (f x ∷ map f xs)
    rest f c x [] = search rules
    rest f c x (y ∷ ys) = ap (λ t. f x ++ (c ∷ t)) (rest f c y ys)

-- one more piece behind the text of those before it
pub next_piece : {X : Type 0} (f : X → List ℕ) (xs : List X) (i : ℕ) (x : X) (text new : List ℕ) → i < length xs → x ≡ get_or xs i x → text ++ flat_map f (drop i xs) ≡ flat_map f xs → new ≡ text ++ f x → new ++ flat_map f (drop (i + 1) xs) ≡ flat_map f xs
next_piece f xs i x text new inside is before added =
    ap (λ t. t ++ flat_map f (drop (i + 1) xs)) added
    ∙ append_assoc text (f x) (flat_map f (drop (i + 1) xs))
    ∙ ap (λ t. text ++ t) (sym (ap (flat_map f) (drop-cons xs i x inside) ∙ (λ k. f (sym is k) ++ flat_map f (drop (sym (add-one i) k) xs))))
    ∙ before
