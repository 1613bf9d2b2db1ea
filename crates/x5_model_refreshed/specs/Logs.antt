-- What a holder of a naming context keeps of its changes, at a line of a run (X.525, section 9: incremental refreshes
-- bring the changes since the last update). That a consumer keeps them for its own consumers, with the refresh's stamp
-- as their moment, is this project's own.
use Rattle.std.specs.Prelude.{ℕ, ◌+◌, ◌==◌, nat_lt, if◌then◌else◌, List, [], ◌∷◌, ◌++◌, length, map}
use Rattle.std.specs.List.{filter}
use Rattle.std.specs.declared.option.Option.{Option}
use Rattle.x5_model.specs.Words.{in_option}
use Rattle.x5_model.specs.Keys.{Key}
use Rattle.x5_model_tree.specs.World.{World}
use Rattle.x5_model_tree.specs.Tree.{Tree, part}
use Rattle.x5_model_tree.specs.Masters.{masters, pins}
use Rattle.x5_model_run.specs.History.{Acceptance, Refreshed, Deed, Nothing, Outs, Loses, Accepts, Refreshes, Splits}
use Rattle.x5_model_run.specs.History.{Unsplits, Did, tree_with, tree_by, knowledge_by}
use Rattle.x5_model_run.specs.History.{Point, as_of}
use Rattle.x5_model_run.specs.Refresh.{is_change_in, consumed_by}
use Rattle.x5_model_refreshed.specs.Steps.{Step, step_of}

-- changes by their moments, the oldest first
abbrev pub Log : Type 0
Log = List (ℕ × Step)

abbrev pub moments_of : Log → List ℕ
moments_of log = map (λ x. x.0) log

-- the steps of those that are later than a moment
abbrev pub steps_later : ℕ → Log → List Step
steps_later m log = map (λ x. x.1) (filter (λ x. nat_lt m x.0) log)

-- ---- the master

-- what it notes of an update that it accepts, where it is in the context
abbrev pub noted_of : ℕ → List Key → Key → Tree → Acceptance → Log
noted_of moment pins pin t a =
    if is_change_in pins pin a then in_option [] (λ s. (moment, s) ∷ []) (step_of (part t pin) a.request.body) else []

abbrev pub noted : ℕ → List Key → Key → Tree → List Acceptance → Log
noted moment pins pin t [] = []
noted moment pins pin t (a ∷ more) =
    noted_of moment pins pin t a ++ noted moment pins pin (tree_with t a.request) more

-- ---- a consumer

-- after a refresh: a total one begins anew, an incremental one adds the supplier's steps since the copy's stamp
abbrev pub stamped : ℕ → List Step → Log
stamped stamp steps = map (λ s. (stamp, s)) steps

abbrev pub brought : Refreshed → Option ℕ → Log → Log → Log
brought f last own theirs =
    if f.total then [] else own ++ in_option [] (λ m. stamped f.stamp (steps_later m theirs)) last

-- ---- line by line

abbrev pub log_after : World → List Did → (ℕ → Key → Log) → Deed → ℕ → Key → Log
log_after w before logs (Accepts accepted) a pin =
    if masters (knowledge_by w before) a pin then logs a pin
    ++ noted (length before + 1) (pins (knowledge_by w before)) pin (tree_by w before) accepted
    else logs a pin
log_after w before logs (Refreshes f) a pin =
    if masters (knowledge_by w before) a pin then logs a pin
    else in_option (logs a pin) (λ g. if f.agreement == g.number then brought f
    (as_of (record { described = w; past = before }) g.number) (logs a pin) (logs g.supplier pin)
    else logs a pin) (consumed_by (knowledge_by w before) a pin)
log_after w before logs Nothing a pin = logs a pin
log_after w before logs (Outs o) a pin = logs a pin
log_after w before logs (Loses reply k) a pin = logs a pin
log_after w before logs (Splits name to) a pin = logs a pin
log_after w before logs (Unsplits name) a pin = logs a pin

abbrev pub logs_by : World → List Did → ℕ → Key → Log
logs_by w [] a pin = []
logs_by w (d ∷ before) a pin = log_after w before (logs_by w before) d.deed a pin

-- the log that a line finds
abbrev pub log_at : Point → ℕ → Key → Log
log_at p a pin = logs_by p.described p.past a pin

-- the stamps of a copy since its last total refresh, the newest first
abbrev pub stamps_since : List Refreshed → List ℕ
stamps_since [] = []
stamps_since (f ∷ earlier) = f.stamp ∷ (if f.total then [] else stamps_since earlier)
