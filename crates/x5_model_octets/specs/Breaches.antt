-- Why octets aren't the value that they should be: they are no element or none of the type, at a place, or they begin with
-- a code that names no operation or error (X.690; X.519, the operations' and errors' codes).
use Rattle.std.specs.Prelude.{ℤ}
use Rattle.x5_model_octets.specs.Faults.{Fault}

-- A breach by octets or by type with its place, or a code that names nothing.
pub data Breach : Type 0 where
  Ber : Fault → Breach
  Unrecognised : ℤ → Breach
