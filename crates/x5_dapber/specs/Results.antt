-- What the calls return.
use Rattle.std.specs.Prelude.{◌≡◌, ℕ, List}
use Rattle.std.specs.declared.option.Option.{Option}
use Rattle.std.specs.declared.option.Option.TheVariants.{None, Some}
use Rattle.std.specs.declared.result.Result.{Result}
use Rattle.std.specs.declared.result.Result.TheVariants.{Ok, Err}
use Rattle.x5_ber.specs.Views.{fault_view}
use Rattle.x5_model_octets.specs.Breaches as octet_breaches
use Rattle.x5_model_typed.specs.Nodes.{Node}
use Rattle.x5_typed.specs.declared.fault.Breach.TheVariants as breaches
use Rattle.x5_typed.specs.declared.fault.ReadFault.{ReadFault}
use Rattle.x5_typed.specs.declared.fault.ReadFault.TheVariants as faults
use Rattle.x5_writer.specs.declared.fault.WriteFault.{WriteFault}
use Rattle.x5_writer.specs.declared.fault.WriteFault.TheVariants.{Misfit, NoMemory}
use Rattle.x5_dapber.specs.declared.fault.WireFault.{WireFault}
use Rattle.x5_dapber.specs.declared.fault.WireFault.TheVariants as wire

-- The octets of a value, or that it has none, unless memory ran out.
abbrev pub IsWritten : Option (List ℕ) → Result (List ℕ) WriteFault → Type 0
IsWritten o (Ok octets) = o ≡ Some octets
IsWritten o (Err Misfit) = o ≡ None
IsWritten o (Err NoMemory) = Unit {0}

abbrev pub wire_fault : ReadFault → WireFault
wire_fault (faults.Breach (breaches.Ber fault)) = wire.Ber fault
wire_fault (faults.Breach (breaches.Unrecognised code)) = wire.Unrecognised code
wire_fault faults.NoMemory = wire.NoMemory

-- What the value says that reading comes to, or the breach that it comes to, unless memory ran out.
abbrev pub Decodes : {X Y : Type 0} → (X → Y) → (Node → Y) → Result Node octet_breaches.Breach → Result X WireFault → Type 0
Decodes view says (Ok n) (Ok x) = view x ≡ says n
Decodes view says (Err (octet_breaches.Ber f)) (Err (wire.Ber g)) = fault_view g ≡ f
Decodes view says (Err (octet_breaches.Unrecognised k)) (Err (wire.Unrecognised l)) = l ≡ k
Decodes view says e (Err wire.NoMemory) = Unit {0}
Decodes view says e r = ⊥

-- Just that is read, unless memory ran out.
abbrev pub IsRead : {X Y : Type 0} → (X → Y) → Y → Result X WireFault → Type 0
IsRead view y (Ok x) = view x ≡ y
IsRead view y (Err wire.NoMemory) = Unit {0}
IsRead view y r = ⊥
