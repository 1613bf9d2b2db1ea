-- Breaches, and what is given where a value or a breach is expected.
use Rattle.std.specs.Prelude.{◌≡◌}
use Rattle.std.specs.declared.result.Result.{Result}
use Rattle.std.specs.declared.result.Result.TheVariants.{Ok, Err}
use Rattle.x5_ber.specs.Views.{fault_view}
use Rattle.x5_model_octets.specs.Breaches as octet_breaches
use Rattle.x5_typed.specs.declared.fault.Breach.{Breach}
use Rattle.x5_typed.specs.declared.fault.Breach.TheVariants.{Ber, Unrecognised}
use Rattle.x5_typed.specs.declared.fault.ReadFault.{ReadFault}
use Rattle.x5_typed.specs.declared.fault.ReadFault.TheVariants as faults

abbrev pub breach_view : Breach → octet_breaches.Breach
breach_view (Ber fault) = octet_breaches.Ber (fault_view fault)
breach_view (Unrecognised k) = octet_breaches.Unrecognised k

-- What is expected is given, or memory ran out.
abbrev pub Gives : {X Y : Type 0} → (X → Y → Type 0) → Result Y octet_breaches.Breach → Result X ReadFault → Type 0
Gives is (Ok y) (Ok x) = is x y
Gives is (Err b) (Err (faults.Breach c)) = breach_view c ≡ b
Gives is e (Err faults.NoMemory) = Unit {0}
Gives is e r = ⊥
