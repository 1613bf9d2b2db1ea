-- The logs of what an agent holds: its changes as the definitions have them, room for more aside (X.525, section 9).
use Rattle.std.specs.Prelude.{ℕ, map}
use Rattle.std.specs.Option.{option_map}
use Rattle.std.specs.declared.option.Option.{Option}
use Rattle.x5_model_refreshed.specs.Steps.{Step}
use Rattle.x5_holdings.specs.Logs as holdings
use Rattle.x5_holdings.specs.State.{Kept, CopyKept, State}
use Rattle.x5_holdings.specs.declared.log.Logged.{Logged}
use Rattle.x5_consume.specs.Steps.{step_view}
use Rattle.x5_world.specs.Logs.{Notes, Logs}

abbrev pub logged_view : Logged → ℕ × Step
logged_view x = (x.moment, step_view x.step)

abbrev pub notes_view : holdings.Log → Notes
notes_view l = record { base = l.base; changes = map logged_view l.changes }

abbrev pub own_notes : Kept → Notes
own_notes c = notes_view c.log

abbrev pub copy_notes : CopyKept → Option Notes
copy_notes c = option_map (λ s. notes_view s.0.log) c.refreshed

abbrev pub logs_view : State → Logs
logs_view s = record { own = map own_notes s.own; copies = map copy_notes s.copies }
