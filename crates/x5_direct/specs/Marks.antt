-- Whether an entry is from a copy, as its mark that it comes from the entry itself says.
use Rattle.std.specs.Prelude.{◌≡◌, ℕ, Bool, true, false, List, ◌∷◌}

-- The mark is false, or it's missing and so true (X.511, 7.7).
abbrev pub IsMark : Bool → List ℕ → List ℕ → Type 0
IsMark true octets rest = octets ≡ 1 ∷ 1 ∷ 0 ∷ rest
IsMark false octets rest = rest ≡ octets
