-- What is sent by a refresh, total or incremental, and what the consumer's copy is then (X.525, sections 9 to 11).
use Rattle.std.specs.Prelude.{◌≡◌, ℕ, Bool, true, false, length}
use Rattle.std.specs.Option.{is_some}
use Rattle.std.specs.declared.option.Option.{Option}
use Rattle.std.specs.declared.option.Option.TheVariants.{None, Some}
use Rattle.std.specs.declared.result.Result.{Result}
use Rattle.std.specs.declared.result.Result.TheVariants.{Ok, Err}
use Rattle.x5_model.specs.Keys.{Key}
use Rattle.x5_model_run.specs.Holdings.{Holdings, copy_at}
use Rattle.x5_model_run.specs.Refresh.{inactive_agreement}
use Rattle.x5_holdings.specs.State.{CopyKept, State}
use Rattle.x5_supply.specs.Supplied.{stamp_of, total_of, since_of}
use Rattle.x5_model_refreshed.specs.Doable.{AreWhole}
use Rattle.x5_consume.specs.Taken.{CanTake, IsReplaced, IsAdvanced}
use Rattle.x5_refresh.specs.declared.brought.Brought.{Brought}
use Rattle.x5_refresh.specs.declared.brought.Brought.TheVariants.{Total, Steps}

-- how many entries or steps
abbrev pub count_in : Brought → ℕ
count_in (Total content) = length content.entries
count_in (Steps steps) = length steps

-- ---- at the supplier

abbrev pub brought_by : {A : Type 0} → (A → Brought) → Result A ℕ → Result Brought ℕ
brought_by make (Ok x) = Ok (make x)
brought_by make (Err problem) = Err problem

-- a total refresh, or an incremental one from a moment on, or the supplier's problem
abbrev pub brought_of : State → Key → Bool → Option ℕ → Result Brought ℕ
brought_of s pin true last = brought_by Total (total_of s pin)
brought_of s pin false last = brought_by Steps (since_of s pin last)

-- with the moment as of which the supplier has the context; an inactive agreement comes first
abbrev pub stamped : Option ℕ → Result Brought ℕ → Result (ℕ × Brought) ℕ
stamped None brought = Err inactive_agreement
stamped (Some stamp) (Ok brought) = Ok (stamp, brought)
stamped (Some stamp) (Err problem) = Err problem

abbrev pub supply_of : State → Key → Bool → Option ℕ → Result (ℕ × Brought) ℕ
supply_of s pin total last = stamped (stamp_of s pin) (brought_of s pin total last)

-- ---- at the consumer

-- it has a copy of the context; a total refresh has a whole context, and the steps of an incremental one can be done
abbrev pub CanAccept : Holdings → Key → Brought → Type 0
CanAccept h pin (Total content) = (is_some (copy_at h pin) ≡ true) × AreWhole pin content.entries
CanAccept h pin (Steps steps) = CanTake h pin steps

-- its copy is replaced, or goes on
abbrev pub IsRefreshed : Brought → ℕ → CopyKept → CopyKept → Type 0
IsRefreshed (Total content) stamp = IsReplaced content stamp
IsRefreshed (Steps steps) stamp = IsAdvanced steps stamp
