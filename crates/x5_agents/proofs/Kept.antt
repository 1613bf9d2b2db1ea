-- What a loop keeps of a list, by a test of what its members stand for.
use Rattle.std.proofs.Common.{◌≡◌, ℕ, ◌+◌, ◌<◌, Bool, true, false, cond, List, [], ◌∷◌, ◌++◌, length, map, drop, get_or, sym, ap, ◌∙◌}
use Rattle.std.proofs.lemmas.List.{append_assoc, map-append}
use Rattle.std.specs.List.{filter}
use Rattle.x5_ops.proofs.Dropping.{drop_at}

module _ {A B : Type 0} (view : A → B) (test : B → Bool) where
  abbrev pub AreKept : List A → ℕ → List A → Type 0
  AreKept kept i xs = map view kept ++ filter test (map view (drop i xs)) ≡ filter test (map view xs)

  first_taken : (x : A) (rest : List A) → test (view x) ≡ true
      → filter test (map view (x ∷ rest)) ≡ view x ∷ filter test (map view rest)
  first_taken x rest e = ap (λ (b : Bool). cond b (view x ∷ filter test (map view rest)) (filter test (map view rest))) e

  first_left : (x : A) (rest : List A) → test (view x) ≡ false
      → filter test (map view (x ∷ rest)) ≡ filter test (map view rest)
  first_left x rest e = ap (λ (b : Bool). cond b (view x ∷ filter test (map view rest)) (filter test (map view rest))) e

  pub one_kept : (xs old new : List A) (i : ℕ) (x y : A) → i < length xs → x ≡ get_or xs i x
      → test (view x) ≡ true → view y ≡ view x → new ≡ old ++ y ∷ []
      → AreKept old i xs → AreKept new (i + 1) xs
  one_kept xs old new i x y lt is e v n h =
      ap (λ (l : List A). map view l ++ filter test (map view (drop (i + 1) xs))) n
      ∙ ap (λ (l : List B). l ++ filter test (map view (drop (i + 1) xs))) (map-append view old (y ∷ []))
      ∙ append_assoc (map view old) (view y ∷ []) (filter test (map view (drop (i + 1) xs)))
      ∙ ap (λ (z : B). map view old ++ z ∷ filter test (map view (drop (i + 1) xs))) v
      ∙ ap (λ (l : List B). map view old ++ l) (sym (first_taken x (drop (i + 1) xs) e))
      ∙ ap (λ (l : List A). map view old ++ filter test (map view l)) (sym (drop_at xs i x lt is))
      ∙ h

  pub one_left : (xs old new : List A) (i : ℕ) (x : A) → i < length xs → x ≡ get_or xs i x
      → test (view x) ≡ false → new ≡ old → AreKept old i xs → AreKept new (i + 1) xs
  one_left xs old new i x lt is e n h =
      ap (λ (l : List A). map view l ++ filter test (map view (drop (i + 1) xs))) n
      ∙ ap (λ (l : List B). map view old ++ l) (sym (first_left x (drop (i + 1) xs) e))
      ∙ ap (λ (l : List A). map view old ++ filter test (map view l)) (sym (drop_at xs i x lt is))
      ∙ h
