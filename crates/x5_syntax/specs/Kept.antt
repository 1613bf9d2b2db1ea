-- The octets of a normal form, in place or apart.
use Rattle.std.specs.Prelude.{ℕ, ◌≤◌, List, take}
use Rattle.x5_syntax.specs.declared.containers.Kept.{Kept}
use Rattle.x5_syntax.specs.declared.containers.Kept.TheVariants.{InPlace, Apart}

-- the octets that are kept
abbrev pub octets_of : Kept → List ℕ
octets_of (InPlace count octets) = take count octets
octets_of (Apart octets) = octets.items

-- no more are in place than have room there
abbrev pub IsKept : Kept → Type 0
IsKept (InPlace count octets) = count ≤ 30
IsKept (Apart octets) = Unit {0}
