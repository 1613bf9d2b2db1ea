-- Places of elements and ends of contents.
use Rattle.std.specs.Prelude.{◌≡◌, ℕ, ◌<◌, ◌≤◌, ◌+◌, nat_le, Bool, List, [], ◌∷◌, drop}
use Rattle.std.specs.declared.option.Option.{Option}
use Rattle.std.specs.declared.option.Option.TheVariants.{None, Some}
use Rattle.x5_model_octets.specs.Faults.{begins_with_end}
use Rattle.x5_ber.specs.Reading.{Stands}

-- behind the one place, and not behind so many octets
abbrev pub Within : ℕ → ℕ → ℕ → Type 0
Within at place total = (at < place) × (place ≤ total)

-- A content is over at the place: its end is there, or end-of-contents octets are.
abbrev pub is_over_at : List ℕ → ℕ → Option ℕ → Bool
is_over_at bytes place None = begins_with_end (drop place bytes)
is_over_at bytes place (Some end) = nat_le end place

abbrev pub EndsAt : List ℕ → Option ℕ → ℕ → Type 0
EndsAt bytes None place = Stands bytes place (0 ∷ 0 ∷ [])
EndsAt bytes (Some end) place = end ≡ place

-- behind a content that ends at the place
abbrev pub behind : Option ℕ → ℕ → ℕ
behind None place = place + 2
behind (Some end) place = place
