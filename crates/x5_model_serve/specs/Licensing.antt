-- The next message of a reference is licensed (X.518, section 20).
use Rattle.std.specs.Prelude.{◌≡◌, ℕ, List, ◌∷◌, ◌++◌}
use Rattle.std.specs.declared.option.Option.{Option}
use Rattle.x5_model.specs.References.{Reference}
use Rattle.x5_model_run.specs.Journal.{Journal}
use Rattle.x5_model_run.specs.Needs.{needs}
use Rattle.x5_model_run.specs.History.{Point}
use Rattle.x5_model_run.specs.Chain.{Scene, Licensed}
use Rattle.x5_model_serve.specs.Serving.{Hand, next_line}
use Rattle.x5_model_serve.specs.Claims.{Apart, AtHand, MayTake, AskedSoFar}

-- Where no two needed references ask the same of one agent, and the agents that stand before it in the reference were
-- asked, a message to the next one has its cause.
abbrev pub NextIsLicensed : Type 0
NextIsLicensed =
    (p : Point) (s : Scene) (from : Option ℕ) (o : Hand) (r : Reference) (before after : List ℕ) (a : ℕ) (j : Journal)
    → Apart (needs (s.holdings o.receiver) o.message) → AtHand p s o j → MayTake s from o r j
    → r.agents ≡ before ++ a ∷ after → AskedSoFar s o r j before
    → Licensed s j.lines (next_line s j from o r a)
