-- What the messages of a refresh and what became of it stand for, given the names of the world's agents (X.525,
-- sections 11 and 12).
use Rattle.std.specs.Prelude.{ℕ, Bool, true, false, ◌==◌, if◌then◌else◌, List, [], ◌∷◌}
use Rattle.std.specs.List.{flat_map}
use Rattle.std.specs.declared.option.Option.{Option}
use Rattle.x5_model_run.specs.Refresh as refresh
use Rattle.x5_model_run.specs.Refresh.{ShadowLine, RefreshOutcome, missed_previous}
use Rattle.x5_ops.specs.AgentNames.{agent_of}
use Rattle.x5_ops.specs.JournalViews.{fate_view}
use Rattle.x5_ops.specs.declared.journal.Line.{Line}
use Rattle.x5_ops.specs.declared.journal.Line.TheVariants.{Msg, Dis, Raw}
use Rattle.x5_ops.specs.declared.journal.Refreshed.{Refreshed}
use Rattle.x5_ops.specs.declared.journal.Refreshed.TheVariants.{Total, Incremental, Nothing, Lost, Failed}
use Rattle.x5_ops.specs.declared.journal.ShadowOperation.{ShadowOperation}
use Rattle.x5_ops.specs.declared.journal.ShadowOperation.TheVariants as shadows

abbrev pub operation_view : ShadowOperation → refresh.ShadowOperation
operation_view shadows.RequestShadowUpdate = refresh.RequestShadowUpdate
operation_view shadows.UpdateShadow = refresh.UpdateShadow
operation_view shadows.CoordinateShadowUpdate = refresh.CoordinateShadowUpdate

-- the line, where it's a message of a refresh
abbrev pub shadow_view : List (List ℕ) → Line → List ShadowLine
shadow_view names (Msg from to operation progress t target fate) = []
shadow_view names (Dis from to operation agreement fate) =
    record {
      sender = agent_of names from;
      receiver = agent_of names to;
      operation = operation_view operation;
      agreement = agreement;
      fate = fate_view fate;
    } ∷ []
shadow_view names (Raw to dsp count fate) = []

abbrev pub shadows_view : List (List ℕ) → List Line → List ShadowLine
shadows_view names lines = flat_map (shadow_view names) lines

-- missedPrevious tells the moments that the two have
abbrev pub problem_view : ℕ → Option ℕ → Option ℕ → RefreshOutcome
problem_view n held given = if n == missed_previous then refresh.Missed held given else refresh.Problem n

-- what became of the refresh of an agreement; `heard` where the supplier knows that it was taken
abbrev pub refreshed_view : Bool → ℕ → Refreshed → RefreshOutcome
refreshed_view heard number (Total m n) =
    refresh.Done (record { agreement = number; total = true; stamp = m; count = n; acknowledged = heard })
refreshed_view heard number (Incremental m n) =
    refresh.Done (record { agreement = number; total = false; stamp = m; count = n; acknowledged = heard })
refreshed_view heard number (Nothing m) =
    refresh.Done (record { agreement = number; total = false; stamp = m; count = 0; acknowledged = heard })
refreshed_view heard number Lost = refresh.Unheard
refreshed_view heard number (Failed problem held given) = problem_view problem held given
