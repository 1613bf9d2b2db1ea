-- A stamp that none is known of, for each agreement.
use Rattle.std.proofs.Common.{◌≡◌, ℕ, zero, suc, ◌+◌, ◌<◌, ◌≤◌, List, [], ◌∷◌, ◌++◌, length, map, drop, refl, sym, ap, ◌∙◌, arith, append_assoc, append-nil, Option, None}
use Rattle.std.proofs.lemmas.List.{drop_all}
use Rattle.x5_model_tree.specs.World.{Agreement}

abbrev pub none_for : Agreement → Option ℕ
none_for g = None

next : (gs : List Agreement) (i : ℕ) → i < length gs → map none_for (drop i gs) ≡ None ∷ map none_for (drop (i + 1) gs)
next [] i l = absurd (omega (arith, l))
next (g ∷ gs) zero l = refl
next (g ∷ gs) (suc i) l =
    let z : suc (i + 1) ≡ suc i + 1 = omega arith in
    next gs i (omega (arith, l)) ∙ ap (λ (k : ℕ). None ∷ map none_for (drop k (g ∷ gs))) z

pub one_more : (gs : List Agreement) (i : ℕ) (so_far more : List (Option ℕ)) → i < length gs
    → so_far ++ map none_for (drop i gs) ≡ map none_for gs → more ≡ so_far ++ None ∷ []
    → more ++ map none_for (drop (i + 1) gs) ≡ map none_for gs
one_more gs i so_far more l far e =
    ap (λ (xs : List (Option ℕ)). xs ++ map none_for (drop (i + 1) gs)) e
    ∙ append_assoc so_far (None ∷ []) (map none_for (drop (i + 1) gs))
    ∙ ap (λ (xs : List (Option ℕ)). so_far ++ xs) (sym (next gs i l))
    ∙ far

pub whole : (gs : List Agreement) (i : ℕ) (so_far : List (Option ℕ)) → length gs ≤ i
    → so_far ++ map none_for (drop i gs) ≡ map none_for gs → so_far ≡ map none_for gs
whole gs i so_far l far =
    sym (append-nil so_far) ∙ ap (λ (xs : List Agreement). so_far ++ map none_for xs) (sym (drop_all i gs l)) ∙ far
