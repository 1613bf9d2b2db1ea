-- What agents keep of changes within the limits of messages (X.525, sections 9 and 11: incremental refreshes bring
-- these changes).
use Rattle.std.specs.Prelude.{ℕ}
use Rattle.x5_model_refreshed.specs.Steps.{Step}
use Rattle.x5_model_fitting.specs.Names.{Each}
use Rattle.x5_model_fitting.specs.Requests.{IfThere}
use Rattle.x5_model_limits.specs.Steps.{BoundedStep}
use Rattle.x5_world.specs.Logs.{Notes, Logs}

-- each change's step
abbrev pub BoundedNotes : Notes → Type 0
BoundedNotes n = Each (λ (x : ℕ × Step). BoundedStep x.1) n.changes

-- an agent's: of each context that it masters, and of each copy that a refresh has brought
pub record BoundedLogs (l : Logs) : Type 0 where
  pub own : Each BoundedNotes l.own
  pub copies : Each (IfThere BoundedNotes) l.copies
