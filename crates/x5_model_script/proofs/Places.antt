-- The first place of a list that passes a test, and that there is none.
use Rattle.std.proofs.Common.{◌≡◌, ℕ, ◌<◌, ◌≤◌, Bool, if◌then◌else◌, List, length, None, Some, sym, ◌∙◌, ap, inl, inr, arith}
use Rattle.std.proofs.lemmas.Bool.{cases_lt, lt-ltb, le-ltb}
use Rattle.std.specs.List.{position, position_or_len}

position_there : {X : Type 0} (p : X → Bool) (xs : List X) → position_or_len p xs < length xs
    → position p xs ≡ Some (position_or_len p xs)
position_there p xs h = ap (λ b. if b then Some (position_or_len p xs) else None) (lt-ltb _ _ h)

position_absent : {X : Type 0} (p : X → Bool) (xs : List X) → length xs ≤ position_or_len p xs → position p xs ≡ None
position_absent p xs h = ap (λ b. if b then Some (position_or_len p xs) else None) (le-ltb _ _ h)

some_injective : (m n : ℕ) → Some m ≡ Some n → m ≡ n
some_injective m n h = cc

pub position_some : {X : Type 0} (p : X → Bool) (xs : List X) (i : ℕ) → position p xs ≡ Some i
    → (i ≡ position_or_len p xs) × (i < length xs)
position_some p xs i h = elim (cases_lt (position_or_len p xs) (length xs)) [
  | inl low ↦ (let same : i ≡ position_or_len p xs = some_injective _ _ (sym h ∙ position_there p xs low) in (same, omega (arith, same, low)))
  | inr high ↦ (let e : Some i ≡ None = sym h ∙ position_absent p xs high in absurd (cc))
]

pub position_none : {X : Type 0} (p : X → Bool) (xs : List X) → position p xs ≡ None → length xs ≤ position_or_len p xs
position_none p xs h = elim (cases_lt (position_or_len p xs) (length xs)) [
  | inl low ↦ (let e : None ≡ Some (position_or_len p xs) = sym h ∙ position_there p xs low in absurd (cc))
  | inr high ↦ high
]
