-- A place among spots once one of them is taken out.
use Rattle.std.proofs.Common.{◌≡◌, ◌≢◌, ℕ, zero, suc, ◌+◌, ◌-◌, ◌<◌, ◌≤◌, true, inl, inr, List, [], ◌∷◌, ◌++◌, length, take, drop, get_or, refl, sym, ap, subst, ◌∙◌, arith, Err}
use Rattle.x5_model.specs.Words.{ascending}
use Rattle.x5_dse.specs.declared.node.NodeId.{NodeId}
use Rattle.x5_dse.specs.Inside.{Slots, Spot, top, spot_at, spots_of, spot_below, IsPlace}
use Rattle.x5_dse.proofs.Spots.{rising, spot_never, spot_get, spots_length, lt_or_le}

module _ {A : Type 0} where
  abbrev pub without : List A → ℕ → List A
  without xs n = take n xs ++ drop (suc n) xs

  pub get_low : (xs : List A) (n k : ℕ) (d : A) → k < n → n < length xs → get_or (without xs n) k d ≡ get_or xs k d
  get_low [] n k d l m = absurd (omega arith)
  get_low (x ∷ xs) zero k d l m = absurd (omega arith)
  get_low (x ∷ xs) (suc n) zero d l m = refl
  get_low (x ∷ xs) (suc n) (suc k) d l m = get_low xs n k d (omega arith) (omega arith)

  pub get_high : (xs : List A) (n k : ℕ) (d : A) → n ≤ k → n < length xs → get_or (without xs n) k d ≡ get_or xs (suc k) d
  get_high [] n k d l m = absurd (omega arith)
  get_high (x ∷ xs) zero k d l m = refl
  get_high (x ∷ xs) (suc n) zero d l m = absurd (omega arith)
  get_high (x ∷ xs) (suc n) (suc k) d l m = get_high xs n k d (omega arith) (omega arith)

  pub length_without : (xs : List A) (n : ℕ) → n < length xs → length (without xs n) + 1 ≡ length xs
  length_without [] n m = absurd (omega arith)
  length_without (x ∷ xs) zero m = omega arith
  length_without (x ∷ xs) (suc n) m = let l : length (without xs n) + 1 ≡ length xs = length_without xs n (omega arith) in omega arith

module _ (spots : List Spot) (from : ℕ) (within : from < length spots) (spot : Spot) where
  pub stays_put : ascending spot_below spots ≡ true → ((d : Spot) → get_or spots from d ≡ spot) → IsPlace (without spots from) spot (Err from)
  stays_put h e = (
    (let l = length_without spots from within in omega arith),
    (λ k d l. subst (λ (x : Spot). spot_below x spot ≡ true) (sym (get_low spots from k d l within)) (subst (λ (x : Spot). spot_below (get_or spots k d) x ≡ true) (e d) (rising spots d k from h l within))),
    (λ k d l m. let n = length_without spots from within in
        subst (λ (x : Spot). spot_below spot x ≡ true) (sym (get_high spots from k d l within)) (subst (λ (x : Spot). spot_below x (get_or spots (suc k) d) ≡ true) (e d) (rising spots d from (suc k) h (omega arith) (omega arith)))),
  )

  pub goes_up : (at : ℕ) → IsPlace spots spot (Err at) → from < at → IsPlace (without spots from) spot (Err (at - 1))
  goes_up at w l = (
    (let n = length_without spots from within in let b = w.0 in omega arith),
    (λ k d m. elim (lt_or_le k from) [
      | inl p ↦ subst (λ (x : Spot). spot_below x spot ≡ true) (sym (get_low spots from k d p within)) (w.1 k d (omega arith))
      | inr p ↦ subst (λ (x : Spot). spot_below x spot ≡ true) (sym (get_high spots from k d p within)) (w.1 (suc k) d (omega arith))
    ]),
    (λ k d m o. let n = length_without spots from within in
        subst (λ (x : Spot). spot_below spot x ≡ true) (sym (get_high spots from k d (omega arith) within)) (w.2 (suc k) d (omega arith) (omega arith))),
  )

  pub goes_down : (at : ℕ) → IsPlace spots spot (Err at) → at ≤ from → IsPlace (without spots from) spot (Err at)
  goes_down at w l = (
    (let n = length_without spots from within in omega arith),
    (λ k d m. subst (λ (x : Spot). spot_below x spot ≡ true) (sym (get_low spots from k d (omega arith) within)) (w.1 k d m)),
    (λ k d m o. let n = length_without spots from within in elim (lt_or_le k from) [
      | inl p ↦ subst (λ (x : Spot). spot_below spot x ≡ true) (sym (get_low spots from k d p within)) (w.2 k d m (omega arith))
      | inr p ↦ subst (λ (x : Spot). spot_below spot x ≡ true) (sym (get_high spots from k d p within)) (w.2 (suc k) d (omega arith) (omega arith))
    ]),
  )

-- a node has one place
pub one_place : (slots : Slots) (order : List NodeId) → ascending spot_below (spots_of slots order) ≡ true → (i j : ℕ) → i < length order → j < length order → get_or order i top ≡ get_or order j top → i ≢ j → ⊥
one_place slots order h i j l m e n = elim (lt_or_le i j) [
  | inl p ↦ spot_never (spot_at slots (get_or order j top)) (subst (λ (x : Spot). spot_below x (spot_at slots (get_or order j top)) ≡ true) (spot_get slots order i top (0, []) l ∙ ap (spot_at slots) e)
      (subst (λ (x : Spot). spot_below (get_or (spots_of slots order) i (0, [])) x ≡ true) (spot_get slots order j top (0, []) m) (rising (spots_of slots order) (0, []) i j h p (omega (arith, spots_length slots order)))))
  | inr p ↦ spot_never (spot_at slots (get_or order j top)) (subst (λ (x : Spot). spot_below (spot_at slots (get_or order j top)) x ≡ true) (spot_get slots order i top (0, []) l ∙ ap (spot_at slots) e)
      (subst (λ (x : Spot). spot_below x (get_or (spots_of slots order) i (0, [])) ≡ true) (spot_get slots order j top (0, []) m) (rising (spots_of slots order) (0, []) j i h (omega arith) (omega (arith, spots_length slots order)))))
]
