-- What is read straight of all octets, they spell.
use Rattle.std.proofs.Common.{◌≡◌, ℕ, List, [], arith}
use Rattle.x5_model_typed.specs.Nodes.{Node}
use Rattle.x5_model_typed.specs.Named.{Named}
use Rattle.x5_model_typed.specs.Typed.{Spells}
use Rattle.x5_types.specs.FormView.{table}
use Rattle.x5_direct.specs.Spelled.{Reads}
use Rattle.x5_dapber.proofs.Coming.{whole_spelled}

pub spelled_whole : {X : Type 0} (form : Named) (says : Node → X) (x : X) (octets : List ℕ)
    → Reads 12 form says x octets [] → (n : Node) × Spells table form octets n × (x ≡ says n)
spelled_whole form says x octets r = (r.0, whole_spelled 12 form r.0 octets (omega arith) r.1, r.2)
