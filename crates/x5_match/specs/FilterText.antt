-- What reading a filter gives.
use Rattle.std.specs.Prelude.{◌≡◌, ℕ, Result, Ok, Err}
use Rattle.x5_syntax.specs.declared.escapes.EscapeFault.{EscapeFault}
use Rattle.x5_syntax.specs.declared.escapes.EscapeFault.TheVariants as escapes
use Rattle.x5_match.specs.declared.parse.FilterFault.{FilterFault}
use Rattle.x5_match.specs.declared.parse.FilterFault.TheVariants.{Bad, NoMemory}

abbrev pub escape_fault : EscapeFault → FilterFault
escape_fault (escapes.Bad place) = Bad place
escape_fault escapes.NoMemory = NoMemory

-- the fault stands at the place that the reading says, unless memory ran out
abbrev pub IsFilterFault : {Y : Type 0} → FilterFault → Result Y ℕ → Type 0
IsFilterFault (Bad place) read = read ≡ Err place
IsFilterFault NoMemory read = Unit {0}

-- what a function returned, seen by `view`, is what the reading gives, unless memory ran out
abbrev pub ReadsFilter : {X Y : Type 0} → (X → Y) → Result X FilterFault → Result Y ℕ → Type 0
ReadsFilter view (Ok x) read = read ≡ Ok (view x)
ReadsFilter view (Err fault) read = IsFilterFault fault read
