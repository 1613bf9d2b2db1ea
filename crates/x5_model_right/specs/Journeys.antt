-- Whom the messages of a request come to (X.518, section 18): agents of the world alone.
use Rattle.std.specs.Prelude.{ℕ, ◌≡◌, false}
use Rattle.x5_model.specs.Words.{is_empty}
use Rattle.x5_model.specs.Members.{In}
use Rattle.x5_model.specs.References.{Reference, Chained}
use Rattle.x5_model_run.specs.Needs.{needs}
use Rattle.x5_model_run.specs.History.{Point, holdings_at}
use Rattle.x5_model_theory.specs.Leading.{IsSound}
use Rattle.x5_model_serve.specs.Claims.{IsAgent}

-- A needed reference names an agent, and only agents.
abbrev pub NeededAgents : Type 0
NeededAgents =
    (p : Point) (o : ℕ) (m : Chained) (r : Reference)
    → IsSound p → In r (needs (holdings_at p o) m)
    → (is_empty r.agents ≡ false) × ((a : ℕ) → In a r.agents → IsAgent p a)
