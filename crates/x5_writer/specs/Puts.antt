-- What stands before the octets that were there, or that there is nothing that can.
use Rattle.std.specs.Prelude.{◌≡◌, ℕ, List, ◌++◌, Vec}
use Rattle.std.specs.Global.{Global}
use Rattle.std.specs.declared.option.Option.{Option}
use Rattle.std.specs.declared.option.Option.TheVariants.{None, Some}
use Rattle.std.specs.declared.result.Result.{Result}
use Rattle.std.specs.declared.result.Result.TheVariants.{Ok, Err}
use Rattle.x5_writer.specs.declared.fault.WriteFault.{WriteFault}
use Rattle.x5_writer.specs.declared.fault.WriteFault.TheVariants.{Misfit, NoMemory}

abbrev pub Puts : {X Y : Type 0} → (X → List ℕ) → Option X → List ℕ → List ℕ → Result Y WriteFault → Type 0
Puts {X} octets o old new (Ok y) = (x : X) × (o ≡ Some x) × (new ≡ octets x ++ old)
Puts octets o old new (Err Misfit) = o ≡ None
Puts octets o old new (Err NoMemory) = Unit {0}

-- The octets of a value, or that it has none.
abbrev pub Writes : Option (List ℕ) → Result (Vec ℕ Global) WriteFault → Type 0
Writes o (Ok octets) = o ≡ Some octets.items
Writes o (Err Misfit) = o ≡ None
Writes o (Err NoMemory) = Unit {0}
