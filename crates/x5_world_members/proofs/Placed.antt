-- A member by the place of its key.
use Rattle.std.proofs.Common.{◌≡◌, ℕ, suc, ◌+◌, ◌≤◌, ◌<◌, Bool, true, false, not, cond, ltb, List, [], ◌∷◌, map, length, slice_get, refl, sym, ap, ◌∙◌, arith, Option, Some, None, Bor}
use Rattle.std.proofs.lemmas.List.Folds.{find_at}
use Rattle.std.proofs.lemmas.Option.{slice_get_past, slice_get_read}
use Rattle.std.specs.List.{find, position, position_or_len}
use Rattle.std.specs.Option.{option_copied}
use Rattle.std.specs.Slice.{IsItemAt}

-- what is got at a place
pub item_got : {A : Type 0} (xs : List A) (i : ℕ) (r : Option (Bor A)) → IsItemAt xs i r → option_copied r ≡ slice_get xs i
item_got xs i None h = sym (slice_get_past xs i h.3)
item_got xs i (Some x) h = sym (slice_get_read xs (length xs) i x.now refl h.3.0 h.1)

module _ {A B : Type 0} (q : B → Bool) (f : A → B) where
  same_place : (xs : List A) → position_or_len q (map f xs) ≡ position_or_len (λ x. q (f x)) xs
  same_place [] = refl
  same_place (x ∷ xs) = ap (λ (n : ℕ). cond (not (q (f x))) (1 + n) 0) (same_place xs)

  same_length : (xs : List A) → length (map f xs) ≡ length xs
  same_length [] = refl
  same_length (x ∷ xs) = ap suc (same_length xs)

  pub placed : (xs : List A) (i : ℕ) → position q (map f xs) ≡ Some i → find (λ x. q (f x)) xs ≡ slice_get xs i
  placed xs i e = find_at (λ x. q (f x)) xs ∙ ap (slice_get xs) (sym (same_place xs) ∙ is)
    where
      by : (b : Bool) → cond b (Some (position_or_len q (map f xs))) None ≡ Some i → position_or_len q (map f xs) ≡ i
      by true h = cc
      by false h = cc

      is : position_or_len q (map f xs) ≡ i
      is = by (ltb (position_or_len q (map f xs)) (length (map f xs))) e

  past : (xs : List A) (b : Bool) → ltb (position_or_len q (map f xs)) (length (map f xs)) ≡ b
      → cond b (Some (position_or_len q (map f xs))) None ≡ None → length xs ≤ position_or_len (λ x. q (f x)) xs
  past xs true is h = cc
  past xs false is h = grind (arith, is, same_length xs, same_place xs)

  pub unplaced : (xs : List A) → position q (map f xs) ≡ None → find (λ x. q (f x)) xs ≡ None
  unplaced xs e =
      find_at (λ x. q (f x)) xs
      ∙ slice_get_past xs (position_or_len (λ x. q (f x)) xs) (past xs (ltb (position_or_len q (map f xs)) (length (map f xs))) refl e)
