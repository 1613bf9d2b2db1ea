-- A list has a number where one of its members equals it; and of a list's members no more pass a test than it has.
use Rattle.std.proofs.Common.{◌≡◌, ℕ, ◌≤◌, Bool, not, List, [], ◌∷◌, length, refl, ap, arith}
use Rattle.std.specs.Prelude.{◌==◌, ◌||◌, nat_lt}
use Rattle.std.specs.List.{filter, list_any}
use Rattle.std.proofs.lemmas.List.Filters.{length-filter_both}
use Rattle.x5_model.specs.Words.{has}

pub any_has : (xs : List ℕ) (a : ℕ) → list_any (λ x. x == a) xs ≡ has ◌==◌ xs a
any_has [] a = refl
any_has (x ∷ xs) a = ap (λ (b : Bool). (x == a) || b) (any_has xs a)

few : (test : ℕ → Bool) (xs : List ℕ) → length (filter test xs) ≤ length xs
few test xs = omega (arith, length-filter_both test (λ x. not (test x)) (λ _. refl) xs)

-- what is within the later numbers is within all
pub within_all : (xs later : List ℕ) (sent n : ℕ) → later ≡ filter (λ k. nat_lt sent k) xs
    → n ≤ length later → n ≤ length xs
within_all xs later sent n e le = omega (arith, ap length e, few (λ k. nat_lt sent k) xs)
