-- What ended a refresh, in the words of runs.
use Rattle.std.specs.Prelude.{ℕ, Bool}
use Rattle.std.specs.declared.option.Option.{Option}
use Rattle.std.specs.declared.option.Option.TheVariants.{None, Some}
use Rattle.x5_model_run.specs.Refresh.{RefreshOutcome}
use Rattle.x5_ops.specs.RefreshViews.{refreshed_view}
use Rattle.x5_refresh.specs.declared.course.Start.{Start}
use Rattle.x5_refresh.specs.declared.course.Start.TheVariants.{Ended, GoesOn}

-- where it goes on nothing did
abbrev pub start_view : Bool → ℕ → Start → Option RefreshOutcome
start_view heard number (Ended became) = Some (refreshed_view heard number became)
start_view heard number GoesOn = None
