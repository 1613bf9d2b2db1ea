-- What reading a name gives.
use Rattle.std.specs.Prelude.{◌≡◌, Result, Ok, Err}
use Rattle.x5_model_text.specs.NameText as model
use Rattle.x5_syntax.specs.declared.escapes.EscapeFault.{EscapeFault}
use Rattle.x5_syntax.specs.declared.escapes.EscapeFault.TheVariants as escapes
use Rattle.x5_syntax.specs.declared.names.NameFault.{NameFault}
use Rattle.x5_syntax.specs.declared.names.NameFault.TheVariants.{BadSpelling, UnknownType, TooManyRdns, TooManyPairs}
use Rattle.x5_syntax.specs.declared.names.NameFault.TheVariants.{RepeatedType, NoMemory}

abbrev pub name_fault : EscapeFault → NameFault
name_fault (escapes.Bad place) = BadSpelling place
name_fault escapes.NoMemory = NoMemory

-- the fault is that of the reading, unless memory ran out
abbrev pub IsNameFault : {Y : Type 0} → NameFault → Result Y model.NameFault → Type 0
IsNameFault (BadSpelling place) read = read ≡ Err (model.BadSpelling place)
IsNameFault UnknownType read = read ≡ Err model.UnknownType
IsNameFault TooManyRdns read = read ≡ Err model.TooManyRdns
IsNameFault TooManyPairs read = read ≡ Err model.TooManyPairs
IsNameFault RepeatedType read = read ≡ Err model.RepeatedType
IsNameFault NoMemory read = Unit {0}

-- what a function returned, seen by `view`, is what the reading gives, unless memory ran out
abbrev pub ReadsName : {X Y : Type 0} → (X → Y) → Result X NameFault → Result Y model.NameFault → Type 0
ReadsName view (Ok x) read = read ≡ Ok (view x)
ReadsName view (Err fault) read = IsNameFault fault read
