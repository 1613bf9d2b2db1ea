-- A place in a list, and what is left there.
use Rattle.std.proofs.Common.{◌≡◌, ℕ, zero, suc, ◌+◌, ◌≤◌, ◌<◌, List, [], ◌∷◌, map, length, drop, get_or, Some, None, refl, ◌∙◌, ap, arith}
use Rattle.x5_model.specs.Words.{first_of}

pub first_left : {X Y : Type 0} (f : X → Y) (xs : List X) (at : ℕ) (d : X) → at < length xs
    → Some (f (get_or xs at d)) ≡ first_of (map f (drop at xs))
first_left f [] at d h = absurd (omega arith)
first_left f (x ∷ xs) zero d h = refl
first_left f (x ∷ xs) (suc at) d h = first_left f xs at d (omega arith)

pub no_first : {X Y : Type 0} (f : X → Y) (xs : List X) (at : ℕ) → length xs ≤ at → None ≡ first_of (map f (drop at xs))
no_first f [] zero h = refl
no_first f [] (suc at) h = refl
no_first f (x ∷ xs) zero h = absurd (omega arith)
no_first f (x ∷ xs) (suc at) h = no_first f xs at (omega arith)

pub one_less : {X Y : Type 0} (f : X → Y) (xs : List X) (at : ℕ)
    → drop 1 (map f (drop at xs)) ≡ map f (drop (at + 1) xs)
one_less f xs at = let e : suc at ≡ at + 1 = omega arith in by f xs at ∙ ap (λ n. map f (drop n xs)) e
  where
    by : {X Y : Type 0} (f : X → Y) (xs : List X) (at : ℕ) → drop 1 (map f (drop at xs)) ≡ map f (drop (suc at) xs)
    by f [] zero = refl
    by f [] (suc at) = refl
    by f (x ∷ xs) zero = refl
    by f (x ∷ xs) (suc at) = by f xs at

pub none_left : {X Y : Type 0} (f : X → Y) (xs : List X) (at : ℕ) → length xs ≤ at
    → drop 1 (map f (drop at xs)) ≡ map f (drop at xs)
none_left f [] zero h = refl
none_left f [] (suc at) h = refl
none_left f (x ∷ xs) zero h = absurd (omega arith)
none_left f (x ∷ xs) (suc at) h = none_left f xs at (omega arith)
