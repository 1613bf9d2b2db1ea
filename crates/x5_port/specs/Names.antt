-- The names of files as the code keeps them.
use Rattle.std.specs.Prelude.{ℕ, List, map, String, string_bytes}

abbrev pub names_in : {A : Type 0} → List (String A) → List (List ℕ)
names_in names = map string_bytes names
