-- The references that an agent needs for a message ask others apart (X.518, sections 18 and 19).
use Rattle.std.specs.Prelude.{◌≡◌, ℕ, true}
use Rattle.x5_model.specs.References.{Chained}
use Rattle.x5_model_run.specs.Needs.{needs}
use Rattle.x5_model_run.specs.History.{Point, holdings_at}
use Rattle.x5_model_run.specs.Placed.{fits}
use Rattle.x5_model_parts.specs.Standing.{Stands, CopiesStand}
use Rattle.x5_model_serve.specs.Claims.{IsAgent, Apart}

-- Where a message that fits is at an agent: no two needed references ask the same of one agent, none stands twice, and
-- none names an agent twice.
abbrev pub NeedsApart : Type 0
NeedsApart =
    (p : Point) (o : ℕ) (m : Chained)
    → Stands p → CopiesStand p → IsAgent p o → fits m ≡ true → Apart (needs (holdings_at p o) m)
