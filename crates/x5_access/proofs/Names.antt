-- The agent that a name stands for: where no name stands twice, it's found at its own place.
use Rattle.std.proofs.Common.{◌≡◌, ℕ, zero, suc, ◌+◌, ◌<◌, Bool, true, false, not, ◌||◌, inl, inr, List, [], ◌∷◌, length, get_or, refl, sym, ap, ◌∙◌, arith, Some, cond}
use Rattle.std.specs.List.{slice_get, position_or_len}
use Rattle.std.specs.Cmp.Lexicographic.{bytes_decides}
use Rattle.std.proofs.lemmas.Option.{slice_get_within, get_or_from_slice_get}
use Rattle.x5_model.specs.Words.{has, distinct, same_octets}
use Rattle.x5_model.proofs.Lists.{both_true, true_or_false}
use Rattle.x5_ops.specs.AgentNames.{agent_of}

false_true : false ≡ true → ⊥
false_true e = cc

same_itself : (x : List ℕ) → same_octets x x ≡ true
same_itself x = (bytes_decides x x).1 refl

not_has : (xs : List (List ℕ)) (y x : List ℕ) (i : ℕ) → has same_octets xs y ≡ false → i < length xs → get_or xs i x ≡ x
    → same_octets y x ≡ false
not_has [] y x i h l e = absurd (omega arith)
not_has (z ∷ xs) y x zero h l e = elim (true_or_false (same_octets y x)) [
  | inl t ↦
      let same : z ≡ y = e ∙ sym ((bytes_decides y x).0 t) in
      let first : same_octets z y ≡ false = left (same_octets z y) (has same_octets xs y) h in
      absurd (false_true (sym first ∙ (bytes_decides z y).1 same))
  | inr f ↦ f
]
  where
    left : (b c : Bool) → (b || c) ≡ false → b ≡ false
    left true c q = absurd (false_true (sym q))
    left false c q = refl
not_has (z ∷ xs) y x (suc i) h l e = not_has xs y x i (right (same_octets z y) (has same_octets xs y) h) (omega arith) e
  where
    right : (b c : Bool) → (b || c) ≡ false → c ≡ false
    right true c q = absurd (false_true (sym q))
    right false c q = q

place_is : (names : List (List ℕ)) (me : ℕ) (x : List ℕ) → distinct same_octets names ≡ true → me < length names
    → get_or names me x ≡ x → position_or_len (λ n. same_octets n x) names ≡ me
place_is [] me x d l e = absurd (omega arith)
place_is (y ∷ names) zero x d l e = rw e (by (same_octets x x) (same_itself x))
  where
    by : (b : Bool) → b ≡ true → cond (not b) (1 + position_or_len (λ n. same_octets n x) names) 0 ≡ 0
    by true q = refl
    by false q = absurd (false_true q)
place_is (y ∷ names) (suc me) x d l e =
    let b = both_true (not (has same_octets names y)) (distinct same_octets names) d in
    let apart : same_octets y x ≡ false = not_has names y x me (no (has same_octets names y) b.0) (omega arith) e in
    by (same_octets y x) apart (place_is names me x b.1 (omega arith) e)
  where
    no : (b : Bool) → not b ≡ true → b ≡ false
    no true q = absurd (false_true q)
    no false q = refl

    by : (b : Bool) → b ≡ false → position_or_len (λ n. same_octets n x) names ≡ me
        → cond (not b) (1 + position_or_len (λ n. same_octets n x) names) 0 ≡ suc me
    by true q p = absurd (false_true (sym q))
    by false q p =
        let one : 1 + position_or_len (λ n. same_octets n x) names ≡ suc (position_or_len (λ n. same_octets n x)
        names) =
        omega arith in
        one ∙ ap suc p

pub own_place : (names : List (List ℕ)) (me : ℕ) (x : List ℕ) → distinct same_octets names ≡ true → slice_get names me
    ≡ Some x
    → agent_of names x ≡ me
own_place names me x d e =
    place_is names me x d (slice_get_within names me x e) (get_or_from_slice_get names me x x e)
