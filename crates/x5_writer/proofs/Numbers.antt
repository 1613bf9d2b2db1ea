-- Object identifiers by their first two arcs, and numbers below zero by what they are less.
use Rattle.std.proofs.Common.{◌≡◌, ℕ, ◌-◌, ◌^◌, ◌<◌, ◌≤◌, suc, Bool, true, false, ◌&&◌, ◌||◌, nat_lt, List, [], ◌∷◌, length, get_or, refl, ap, ap₂, ◌∙◌, ℤ, pos, negsuc, arith}
use Rattle.std.proofs.Common.{◌<ℤ◌}
use Rattle.std.proofs.lemmas.Int.{ints}
use lib.IntN.{nat_abs}
use Rattle.std.proofs.lemmas.Bool.{lt-ltb}
use Rattle.std.specs.List.{list_all}
use Rattle.x5_model.specs.Normal.{is_oid}

and_true : (b : Bool) → (b && true) ≡ b
and_true true = refl
and_true false = refl

all_fit : (xs : List ℕ) → ((k : ℕ) → get_or xs k 0 < 2 ^ 32) → list_all (λ n. nat_lt n (2 ^ 32)) xs ≡ true
all_fit [] h = refl
all_fit (x ∷ xs) h =
    let head : x < 2 ^ 32 = h 0 in
    let tail = all_fit xs (λ k. h (suc k)) in
    ap₂ ◌&&◌ (lt-ltb x (2 ^ 32) head) tail

pub is_oid_reads : (xs : List ℕ) → ((k : ℕ) → get_or xs k 0 < 2 ^ 32) → 2 ≤ length xs
    → is_oid xs ≡ (nat_lt (get_or xs 0 0) 3 && (nat_lt 1 (get_or xs 0 0) || nat_lt (get_or xs 1 0) 40))
is_oid_reads [] h two = absurd (omega arith)
is_oid_reads (a ∷ []) h two = absurd (omega arith)
is_oid_reads (a ∷ b ∷ xs) h two =
    ap (λ t. (nat_lt a 3 && (nat_lt 1 a || nat_lt b 40)) && t) (all_fit (a ∷ b ∷ xs) h) ∙ and_true _

pub abs_less : (z : ℤ) → z <ℤ pos 0 → z ≡ negsuc (nat_abs z - 1)
abs_less (pos n) h = grind (arith, ints)
abs_less (negsuc n) h =
    let less : n ≡ suc n - 1 = omega arith in
    ap negsuc less
