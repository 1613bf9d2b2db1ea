-- Whether a name is one of the world's agents: it's found among them.
use Rattle.std.proofs.Common.{◌≡◌, ℕ, suc, ◌+◌, Bool, true, false, ◌||◌, nat_lt, if◌then◌else◌, List, [], ◌∷◌}
use Rattle.std.proofs.Common.{length, refl, ap₂, sym, ◌∙◌, arith}
use Rattle.std.proofs.lemmas.Bool.{lt-ltb}
use Rattle.std.proofs.lemmas.Bool.Decides.{nat_tests}
use Rattle.std.specs.Cmp.Lexicographic.{bytes_decides}
use Rattle.std.specs.List.{list_any, position, position_or_len}
use Rattle.std.specs.Option.{is_some}
use Rattle.std.specs.declared.option.Option.TheVariants.{None, Some}
use Rattle.x5_model.specs.Words.{same_octets}
use Rattle.x5_know.specs.Names.{has_name}

either_way : (p q : Bool) (a b : List ℕ) → same_octets a b ≡ p → same_octets b a ≡ q → p ≡ q
either_way true true a b e f = refl
either_way false false a b e f = refl
either_way true false a b e f =
    let same : a ≡ b = (bytes_decides a b).0 e in
    absurd (cc (f, (bytes_decides b a).1 (sym same)))
either_way false true a b e f =
    let same : b ≡ a = (bytes_decides b a).0 f in
    absurd (cc (e, (bytes_decides a b).1 (sym same)))

either_name : (t : List ℕ) (names : List (List ℕ)) → list_any (λ n. same_octets n t) names ≡ has_name names t
either_name t [] = refl
either_name t (n ∷ names) =
    ap₂ ◌||◌ (either_way (same_octets n t) (same_octets t n) n t refl refl) (either_name t names)

shift : (k n : ℕ) → nat_lt (1 + k) (suc n) ≡ nat_lt k n
shift k n = grind (arith, nat_tests)

front : (n : ℕ) → nat_lt 0 (suc n) ≡ true
front n = lt-ltb 0 (suc n) (omega arith)

step : {X : Type 0} (p : X → Bool) (x : X) (xs : List X) (b : Bool) → p x ≡ b
    → nat_lt (position_or_len p xs) (length xs) ≡ list_any p xs
    → nat_lt (position_or_len p (x ∷ xs)) (length (x ∷ xs)) ≡ (b || list_any p xs)
step p x xs true e h = rw e (front (length xs))
step p x xs false e h = rw e (shift (position_or_len p xs) (length xs) ∙ h)

there : {X : Type 0} (p : X → Bool) (xs : List X) → nat_lt (position_or_len p xs) (length xs) ≡ list_any p xs
there p [] = refl
there p (x ∷ xs) = step p x xs (p x) refl (there p xs)

some_so : (b : Bool) (k : ℕ) → is_some (if b then Some k else None) ≡ b
some_so true k = refl
some_so false k = refl

pub is_named : (t : List ℕ) (names : List (List ℕ)) → is_some (position (λ n. same_octets n t) names) ≡ has_name names t
is_named t names =
    some_so (nat_lt (position_or_len (λ n. same_octets n t) names) (length names)) (position_or_len (λ n. same_octets n t) names)
    ∙ there (λ n. same_octets n t) names ∙ either_name t names
