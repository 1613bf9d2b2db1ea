-- What was there is still there, with octets behind it.
use Rattle.std.specs.Prelude.{◌≡◌, ℕ, List, length, take}

abbrev pub IsPrefixOf : List ℕ → List ℕ → Type 0
IsPrefixOf old new = take (length old) new ≡ old
