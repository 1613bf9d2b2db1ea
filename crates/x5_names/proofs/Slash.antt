-- A text that is cut at the last of an octet is what stands before it, the octet, and what stands behind.
use Rattle.std.proofs.Common.{◌≡◌, ℕ, ◌+◌, ◌<◌, ◌≤◌, List, ◌∷◌, ◌++◌, length, take, drop, Option, None, Some, Bor, sym, ap, ap₂, ◌∙◌, take-append-drop}
use Rattle.std.proofs.lemmas.Str.Pattern.{drop_at_char}
use Rattle.std.specs.Option.{MatchOption}
use Rattle.std.specs.Prelude.{IfSome}
use Rattle.std.specs.Str.Pattern.{RFindsChar}

-- the clause of `rsplit_once` at a character
abbrev IsLastCut : ℕ → List ℕ → Option (Bor (List ℕ) × Bor (List ℕ)) → Type 0
IsLastCut c bs r =
    MatchOption r (RFindsChar c bs None) (λ x. (i : ℕ) × (j : ℕ) × RFindsChar c bs (Some (i, j)) × (x.0.now ≡ take i bs) × (x.1.now ≡ drop j bs) × (i ≤ j) × (length x.0.now ≡ i) × (length x.1.now + j ≡ length bs))

pub cut_at_last : (c : ℕ) (bs : List ℕ) (r : Option (Bor (List ℕ) × Bor (List ℕ))) → IsLastCut c bs r → c < 128 → IfSome r (λ x. bs ≡ x.0.now ++ c ∷ x.1.now)
cut_at_last c bs None cut small = tt
cut_at_last c bs (Some x) cut small =
    sym (take-append-drop cut.0 bs)
    ∙ ap (λ (behind : List ℕ). take cut.0 bs ++ behind) (drop_at_char c bs cut.0 cut.1 cut.2.1 small)
    ∙ ap₂ (λ (before behind : List ℕ). before ++ c ∷ behind) (sym cut.3) (sym cut.4)
