-- Texts that only small letters part from their normal form.
use Rattle.std.specs.Prelude.{ℕ, Bool, ◌&&◌, not, nat_lt, List, [], ◌∷◌}
use Rattle.x5_model.specs.Normal.{is_space}

-- the octet is of ASCII, and no space where `behind` says that one goes before, or the value begins
abbrev pub stays : Bool → ℕ → Bool
stays behind b = nat_lt b 128 && not (is_space b && behind)

-- each octet stays, and no space is at the end where `last` says that the value ends there
abbrev pub is_plain : Bool → Bool → List ℕ → Bool
is_plain behind last [] = not (behind && last)
is_plain behind last (b ∷ bs) = stays behind b && is_plain (is_space b) last bs
