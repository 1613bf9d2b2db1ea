-- How logs grow by a refresh (X.525, section 9): a total one begins the consumer's log anew, and an incremental one
-- adds its steps, noted one after another at the stamp, of which the last 256 are kept.
use Rattle.std.specs.Prelude.{◌≡◌, ◌≢◌, ℕ, ◌-◌, true, false, nat_lt, if◌then◌else◌, ◌⊎◌, List, [], ◌∷◌, ◌++◌, length}
use Rattle.std.specs.Prelude.{drop, reverse, replicate}
use Rattle.std.specs.declared.option.Option.TheVariants.{Some}
use Rattle.x5_model.specs.Words.{first_of, in_option}
use Rattle.x5_model.specs.Members.{In}
use Rattle.x5_model.specs.Keys.{Key}
use Rattle.x5_model.specs.Values.{key_of}
use Rattle.x5_model_tree.specs.World.{Agreement}
use Rattle.x5_model_run.specs.History.{Refreshed, Point, knowledge_at, as_of}
use Rattle.x5_model_run.specs.Refresh.{Changes, changes_at, base_of}
use Rattle.x5_model_refreshed.specs.Steps.{Step}
use Rattle.x5_model_refreshed.specs.Logs.{Log, moments_of, steps_later, stamped, log_at}
use Rattle.x5_model_refreshed.specs.Refreshed.{after_refresh}
use Rattle.x5_model_refreshed.specs.Replaying.{IsLed, IsBrought, last_256}
use Rattle.x5_model_refreshed.specs.Growing.{IsLogOf}

-- ---- what is kept, one change after another

-- what is kept of changes once there is one more, and the base then
abbrev pub kept_more : Log → ℕ × Step → Log
kept_more kept x = drop (length kept - 255) kept ++ x ∷ []

abbrev pub base_more : ℕ → Log → ℕ
base_more base kept = if nat_lt (length kept) 256 then base else in_option base (λ y. y.0) (first_of kept)

-- and once there are all of these more
abbrev pub kept_noting : Log → Log → Log
kept_noting kept [] = kept
kept_noting kept (x ∷ more) = kept_noting (kept_more kept x) more

abbrev pub base_noting : ℕ → Log → Log → ℕ
base_noting base kept [] = base
base_noting base kept (x ∷ more) = base_noting (base_more base kept) (kept_more kept x) more

-- this log has no changes since the moment
pub record IsLogBegun (q : Point) (a : ℕ) (pin : Key) (m : ℕ) : Type 0 where
  pub log : log_at q a pin ≡ []
  pub kept : last_256 (log_at q a pin) ≡ []
  pub changes : changes_at q a pin ≡ record { origin = m; moments = [] }
  pub base : base_of (changes_at q a pin) ≡ m

-- or it has all these steps more, at this moment
pub record IsLogLonger (p q : Point) (a : ℕ) (pin : Key) (m : ℕ) (steps : List Step) : Type 0 where
  pub log : log_at q a pin ≡ log_at p a pin ++ stamped m steps
  pub kept : last_256 (log_at q a pin) ≡ kept_noting (last_256 (log_at p a pin)) (stamped m steps)
  pub changes : changes_at q a pin
      ≡ record (changes_at p a pin) { moments = replicate (length steps) m ++ (changes_at p a pin).moments }
  pub base : base_of (changes_at q a pin)
      ≡ base_noting (base_of (changes_at p a pin)) (last_256 (log_at p a pin)) (stamped m steps)

-- 1. After a total refresh the consumer's log begins anew with the stamp;
abbrev pub TotalBeginsLog : Type 0
TotalBeginsLog =
    (p : Point) (f : Refreshed) (sent : ℕ) (g : Agreement) → IsLed p → IsBrought p f → f.total ≡ true
    → In g (knowledge_at p).agreements → g.number ≡ f.agreement
    → IsLogBegun (after_refresh p f sent) g.consumer (key_of g.context) f.stamp

-- 2. after an incremental one it has the supplier's steps since the copy's stamp more;
abbrev pub StepsLengthenLog : Type 0
StepsLengthenLog =
    (p : Point) (f : Refreshed) (sent : ℕ) (g : Agreement) (m : ℕ) → IsLed p → IsBrought p f → f.total ≡ false
    → In g (knowledge_at p).agreements → g.number ≡ f.agreement → as_of p g.number ≡ Some m
    → IsLogLonger p (after_refresh p f sent) g.consumer (key_of g.context) f.stamp
    (steps_later m (log_at p g.supplier (key_of g.context)))

-- 3. and every other log is as it was.
abbrev pub OtherLogsStay : Type 0
OtherLogsStay =
    (p : Point) (f : Refreshed) (sent : ℕ) (g : Agreement) (a : ℕ) (pin : Key) → IsLed p → IsBrought p f
    → In g (knowledge_at p).agreements → g.number ≡ f.agreement → (a ≢ g.consumer) ⊎ (pin ≢ key_of g.context)
    → IsLogOf p (after_refresh p f sent) a pin

-- 4. Changes of one moment that are noted one after another leave the last 256 of all, and their base.
pub record IsKeptNoting (log : Log) (c : Changes) (m : ℕ) (steps : List Step) : Type 0 where
  pub last : last_256 (log ++ stamped m steps) ≡ kept_noting (last_256 log) (stamped m steps)
  pub base : base_of (record c { moments = replicate (length steps) m ++ c.moments })
      ≡ base_noting (base_of c) (last_256 log) (stamped m steps)

abbrev pub KeptGrowsOn : Type 0
KeptGrowsOn =
    (log : Log) (c : Changes) (m : ℕ) (steps : List Step) → moments_of log ≡ reverse c.moments
    → IsKeptNoting log c m steps
