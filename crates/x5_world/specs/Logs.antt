-- What agents keep of the changes of the contexts that they hold, as steps with their moments (X.525, section 9:
-- incremental refreshes bring the changes since the last update): at a line of a run over consistent knowledge, and
-- once an update was accepted.
use Rattle.std.specs.Prelude.{◌≡◌, ℕ, ◌-◌, nat_lt, if◌then◌else◌, List, [], ◌∷◌, ◌++◌, length, map}
use Rattle.std.specs.Prelude.{drop, slice_get, slice_set}
use Rattle.std.specs.Option.{option_map}
use Rattle.std.specs.declared.option.Option.{Option}
use Rattle.std.specs.declared.option.Option.TheVariants.{Some}
use Rattle.x5_model.specs.Words.{first_of, in_option}
use Rattle.x5_model.specs.Keys.{Key}
use Rattle.x5_model.specs.Values.{key_of}
use Rattle.x5_model.specs.Requests.{Request}
use Rattle.x5_model_tree.specs.World.{Agent}
use Rattle.x5_model_tree.specs.Masters.{agent_at, held_contexts}
use Rattle.x5_model_run.specs.Holdings.{Held, Holdings}
use Rattle.x5_model_run.specs.History.{Point, agreements_of, as_of, knowledge_at}
use Rattle.x5_model_run.specs.Refresh.{base_of, changes_at}
use Rattle.x5_model_refreshed.specs.Steps.{Step, step_of}
use Rattle.x5_model_refreshed.specs.Logs.{Log, log_at}
use Rattle.x5_model_refreshed.specs.Replaying.{last_256}

-- the changes of a context since a base moment, the oldest first
pub record Notes : Type 0 where
  pub base : ℕ
  pub changes : Log

-- an agent's: of each context that it masters, and of each copy that a refresh has brought, in their orders
pub record Logs : Type 0 where
  pub own : List Notes
  pub copies : List (Option Notes)

-- nobody's
abbrev pub no_logs : Logs
no_logs = record { own = []; copies = [] }

-- ---- as the lines before tell them

-- of a context's changes the last 256 are kept; the base is the moment from which they are all
abbrev pub notes_at : Point → ℕ → Key → Notes
notes_at p a pin = record { base = base_of (changes_at p a pin); changes = last_256 (log_at p a pin) }

-- an agent's: of what it masters, and of each copy that has a stamp
abbrev pub agent_logs : Point → ℕ → Agent → Logs
agent_logs p me a = record {
  own = map (λ c. notes_at p me (key_of c.prefix)) (held_contexts [] a.contexts);
  copies = map (λ g. option_map (λ stamp. notes_at p me (key_of g.context)) (as_of p g.number))
      (agreements_of (knowledge_at p) me);
}

abbrev pub logs_at : Point → ℕ → Logs
logs_at p me = in_option no_logs (agent_logs p me) (agent_at (knowledge_at p) me)

-- ---- an update

-- one more change is noted: where 256 are kept the oldest goes, and its moment is the base
abbrev pub noting : ℕ × Step → Notes → Notes
noting x n = record {
  base = if nat_lt (length n.changes) 256 then n.base else in_option n.base (λ y. y.0) (first_of n.changes);
  changes = drop (length n.changes - 255) n.changes ++ x ∷ [];
}

-- an agent that held this accepted an update: its step is noted with the context whose entries it changes
pub record AreNoted (moment : ℕ) (r : Request) (h : Holdings) (old new : Logs) : Type 0 where
  pub place : ℕ
  pub context : Held
  pub notes : Notes
  pub step : Step
  pub held : slice_get h.own place ≡ Some context
  pub kept : slice_get old.own place ≡ Some notes
  pub told : step_of context.entries r.body ≡ Some step
  pub new_is : new ≡ record old { own = slice_set old.own place (noting (moment, step) notes) }
