-- What a refresh line is to the next one, by its block's outcome (X.525, sections 9 to 12: a refresh that was taken, or
-- none).
use Rattle.std.specs.Prelude.{◌≡◌, ℕ, Bool, ◌==◌, ⊤, ◌∷◌, length}
use Rattle.std.specs.List.{find}
use Rattle.std.specs.declared.option.Option.TheVariants.{Some}
use Rattle.x5_model.specs.Members.{In}
use Rattle.x5_model_run.specs.History.{Refreshed, Nothing, Point, knowledge_at}
use Rattle.x5_model_run.specs.Refresh.{RefreshOutcome, Done, Unheard, Problem, Missed, NotConsistent, refresh_block}
use Rattle.x5_model_run.specs.Run.{Updates, Refreshing, did_by}
use Rattle.x5_model_refreshed.specs.Refreshed.{after_refresh}
use Rattle.x5_model_refreshed.specs.Growing.{after_deed}
use Rattle.x5_model_refreshed.specs.Replaying.{IsBrought, IsLed}

-- the line after a refresh by the agreement of this number
abbrev pub after_block : Point → ℕ → Bool → Bool → Point
after_block p number pushes total =
    record p { past = did_by (Updates number pushes total) (Refreshing (refresh_block p number pushes total)) ∷ p.past }

-- The block's refresh is one that comes by the agreement of the number, as it was told; and the next line is the one
-- after it.
pub record IsBlockOf (p : Point) (number : ℕ) (pushes total : Bool) (f : Refreshed) : Type 0 where
  pub brought : IsBrought p f
  pub of_number : f.agreement ≡ number
  pub as_told : f.total ≡ total
  pub found : find (λ g. g.number == number) (knowledge_at p).agreements ≡ Some brought.agreement
  pub there : In brought.agreement (knowledge_at p).agreements
  pub numbered : brought.agreement.number ≡ f.agreement
  pub next : after_block p number pushes total
      ≡ after_refresh p f (length (refresh_block p number pushes total).lines)

-- 1. Where the outcome is a refresh, that was brought.
abbrev pub BlockBrings : Type 0
BlockBrings =
    (p : Point) (number : ℕ) (pushes total : Bool) (f : Refreshed)
    → (refresh_block p number pushes total).outcome ≡ Done f → IsBlockOf p number pushes total f

abbrev pub BringsNothing : RefreshOutcome → Type 0
BringsNothing (Done f) = ⊥
BringsNothing Unheard = ⊤
BringsNothing (Problem k) = ⊤
BringsNothing (Missed a b) = ⊤
BringsNothing NotConsistent = ⊤

-- 2. After any other outcome the next line is one after nothing, but for the messages.
abbrev pub OthersDoNothing : Type 0
OthersDoNothing =
    (p : Point) (number : ℕ) (pushes total : Bool) → BringsNothing (refresh_block p number pushes total).outcome
    → after_block p number pushes total ≡ after_deed p Nothing (length (refresh_block p number pushes total).lines)

-- 3. Either way the next line is led to as this one is.
abbrev pub BlocksLead : Type 0
BlocksLead =
    (p : Point) (number : ℕ) (pushes total : Bool) → IsLed p → IsLed (after_block p number pushes total)
