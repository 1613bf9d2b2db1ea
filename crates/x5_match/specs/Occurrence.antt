-- The first place where a part stands in a text.
use Rattle.std.specs.Prelude.{ℕ, ◌==◌, if◌then◌else◌, List, [], ◌∷◌, drop, length, Option, None, Some}
use Rattle.std.specs.List.{starts_with}

-- what stands behind it
abbrev pub behind_occurrence : List ℕ → List ℕ → Option (List ℕ)
behind_occurrence part [] = if starts_with ◌==◌ [] part then Some (drop (length part) []) else None
behind_occurrence part (b ∷ text) =
    if starts_with ◌==◌ (b ∷ text) part then Some (drop (length part) (b ∷ text)) else behind_occurrence part text
