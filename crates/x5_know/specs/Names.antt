-- The names of a world's agents, in the order of its file.
use Rattle.std.specs.Prelude.{ℕ, Bool, if◌then◌else◌, List, [], ◌∷◌, ◌++◌}
use Rattle.std.specs.List.{list_any}
use Rattle.x5_model.specs.Words.{same_octets}

-- whether one of the names is this
abbrev pub has_name : List (List ℕ) → List ℕ → Bool
has_name names name = list_any (same_octets name) names

-- the names with one more, unless it is among them
abbrev pub with_name : List (List ℕ) → List ℕ → List (List ℕ)
with_name names name = if has_name names name then names else names ++ name ∷ []
