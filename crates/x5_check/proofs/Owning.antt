-- Whether an agent masters an entry is found by going from one context that has it to the next.
use Rattle.std.proofs.Common.{◌≡◌, ℕ, zero, suc, ◌+◌, ◌<◌, ◌≤◌, Bool, true, false, ◌&&◌, ◌||◌, ◌==◌, ◌⊎◌, inl, inr, List, [], ◌∷◌, drop, length, Option, None, Some, refl, sym, ap, ◌∙◌, arith}
use Rattle.std.proofs.lemmas.List.{drop_all}
use Rattle.std.specs.Prelude.{slice_get}
use Rattle.std.specs.List.{list_any}
use Rattle.x5_model.specs.Words.{some_and}
use Rattle.x5_model.specs.Keys.{Key}
use Rattle.x5_model.proofs.Lists.{and_true}
use Rattle.x5_model_tree.specs.Masters.{Mastered}
use Rattle.x5_model_tree.specs.Tree.{is_there}
use Rattle.x5_check.specs.Numbers.{entry_places, owners_in}
use Rattle.x5_check.specs.Rows.{IsNext}
use Rattle.x5_check.proofs.Places.{less_or_not, it_passes}

any_over : {A : Type 0} (test : A → Bool) (xs : List A) (from place : ℕ) → from ≤ place
    → ((n : ℕ) (x : A) → from ≤ n → n < place → slice_get xs n ≡ Some x → test x ≡ false)
    → list_any test (drop from xs) ≡ list_any test (drop place xs)
any_over test [] zero zero le h = refl
any_over test [] zero (suc p) le h = refl
any_over test [] (suc n) zero le h = refl
any_over test [] (suc n) (suc p) le h = refl
any_over test (x ∷ xs) zero zero le h = refl
any_over test (x ∷ xs) zero (suc p) le h =
    ap (λ (b : Bool). b || list_any test xs) (h 0 x (omega arith) (omega arith) refl)
    ∙ any_over test xs zero p (omega arith) (λ n y a b e. h (suc n) y (omega arith) (omega arith) e)
any_over test (x ∷ xs) (suc n) zero le h = absurd (omega arith)
any_over test (x ∷ xs) (suc n) (suc p) le h =
    any_over test xs n p (omega arith) (λ m y a b e. h (suc m) y (omega arith) (omega arith) e)

none_behind : {A : Type 0} (test : A → Bool) (xs : List A) (from : ℕ)
    → ((n : ℕ) (x : A) → from ≤ n → slice_get xs n ≡ Some x → test x ≡ false) → list_any test (drop from xs) ≡ false
none_behind {A} test xs from h = elim (less_or_not from (length xs)) [
  | inl lt ↦ any_over test xs from (length xs) (omega arith) (λ n x a b e. h n x a e)
      ∙ ap (λ (l : List A). list_any test l) (drop_all (length xs) xs (omega arith))
  | inr le ↦ ap (λ (l : List A). list_any test l) (drop_all from xs le)
]

pub is_within : {A : Type 0} (test : A → Bool) (xs : List A) (n : ℕ) → some_and test (slice_get xs n) ≡ true → n < length xs
is_within test [] n e = cc
is_within test (x ∷ xs) zero e = omega arith
is_within test (x ∷ xs) (suc n) e = (let h = is_within test xs n e in omega (arith, h))

neither : (a b : Bool) → a ≡ false → (a && b) ≡ false
neither a b e = ap (λ (c : Bool). c && b) e

nor : (a b : Bool) → b ≡ false → (a && b) ≡ false
nor true b e = e
nor false b e = refl

both : {A : Type 0} (s t : A → Bool) (o : Option A) → some_and s o ≡ true → some_and t o ≡ true → some_and (λ x. s x && t x) o ≡ true
both s t None e f = e
both s t (Some x) e f = and_true (s x) (t x) e f

before_or_at : (n place : ℕ) → n < place + 1 → (n < place) ⊎ (n ≡ place)
before_or_at n place h = grind arith

module _ (ms : List Mastered) (key : Key) (agent : ℕ) where
  abbrev pub owns : Mastered → Bool
  owns m = (m.master == agent) && is_there m.context.entries key

  pub found : (place : ℕ) → entry_places ms key place ≡ true → some_and (λ m. m.master == agent) (slice_get ms place) ≡ true
      → true ≡ owners_in ms key agent
  found place there mine =
      sym (it_passes owns ms place (both (λ (m : Mastered). m.master == agent) (λ m. is_there m.context.entries key) (slice_get ms place) mine there))

  pub passed : (from place : ℕ) → IsNext (entry_places ms) key from (Some place)
      → some_and (λ m. m.master == agent) (slice_get ms place) ≡ false
      → list_any owns (drop from ms) ≡ list_any owns (drop (place + 1) ms)
  passed from place next other =
      any_over owns ms from (place + 1) (let le : from ≤ place = next.1 in omega arith)
      (λ n x low high at. elim (before_or_at n place high) [
        | inl lt ↦ nor (x.master == agent) (is_there x.context.entries key)
            (sym (ap (some_and (λ (m : Mastered). is_there m.context.entries key)) at) ∙ next.2 n low lt)
        | inr is ↦ neither (x.master == agent) (is_there x.context.entries key)
            (sym (ap (some_and (λ (m : Mastered). m.master == agent)) at)
            ∙ ap (λ (k : ℕ). some_and (λ (m : Mastered). m.master == agent) (slice_get ms k)) is ∙ other)
      ])

  pub nobody : (from : ℕ) → IsNext (entry_places ms) key from None → list_any owns (drop from ms) ≡ false
  nobody from none =
      none_behind owns ms from (λ n x low at. nor (x.master == agent) (is_there x.context.entries key)
      (sym (ap (some_and (λ (m : Mastered). is_there m.context.entries key)) at) ∙ none n low))
