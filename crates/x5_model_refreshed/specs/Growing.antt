-- How the log of a context grows, line by line (X.525, section 9: the changes since the last update): what a line adds,
-- and what is kept then.
use Rattle.std.specs.Prelude.{◌≡◌, ℕ, ◌-◌, true, false, nat_lt, if◌then◌else◌, ⊤, ◌⊎◌, [], ◌∷◌, ◌++◌, length}
use Rattle.std.specs.Prelude.{drop, reverse}
use Rattle.std.specs.declared.option.Option.TheVariants.{Some}
use Rattle.x5_model.specs.Words.{first_of, in_option}
use Rattle.x5_model.specs.Keys.{Key}
use Rattle.x5_model_tree.specs.Tree.{part}
use Rattle.x5_model_tree.specs.Masters.{masters, pins}
use Rattle.x5_model_run.specs.History.{Acceptance, Deed, Nothing, Outs, Loses, Accepts, Refreshes, Splits, Unsplits}
use Rattle.x5_model_run.specs.History.{Point, moment_of, knowledge_at, tree_at}
use Rattle.x5_model_run.specs.Refresh.{Changes, is_change_in, changes_at, base_of}
use Rattle.x5_model_refreshed.specs.Steps.{Step, step_of}
use Rattle.x5_model_refreshed.specs.Logs.{Log, moments_of, log_at}
use Rattle.x5_model_refreshed.specs.Replaying.{last_256}

-- the line after one that did this by so many messages
abbrev pub after_deed : Point → Deed → ℕ → Point
after_deed p deed sent = record p { past = record { deed = deed; sent = sent } ∷ p.past }

-- a line's log of a context is that of an earlier line,
pub record IsLogOf (p q : Point) (a : ℕ) (pin : Key) : Type 0 where
  pub log : log_at q a pin ≡ log_at p a pin
  pub changes : changes_at q a pin ≡ changes_at p a pin

-- or has one change more, of the earlier line's moment
pub record IsLogMore (p q : Point) (a : ℕ) (pin : Key) (s : Step) : Type 0 where
  pub log : log_at q a pin ≡ log_at p a pin ++ (moment_of p, s) ∷ []
  pub changes : changes_at q a pin
      ≡ record (changes_at p a pin) { moments = moment_of p ∷ (changes_at p a pin).moments }

-- nothing is accepted, refreshed or moved
abbrev pub IsQuiet : Deed → Type 0
IsQuiet Nothing = ⊤
IsQuiet (Outs o) = ⊤
IsQuiet (Loses reply k) = ⊤
IsQuiet (Accepts accepted) = ⊥
IsQuiet (Refreshes f) = ⊥
IsQuiet (Splits name a) = ⊥
IsQuiet (Unsplits name) = ⊥

-- 1. Where nothing is accepted, refreshed or moved, logs stay.
abbrev pub QuietLogsStay : Type 0
QuietLogsStay =
    (p : Point) (deed : Deed) (sent a : ℕ) (pin : Key) → IsQuiet deed → IsLogOf p (after_deed p deed sent) a pin

-- 2. An accepted update is noted by the master of the context in which it is,
abbrev pub UpdateIsNoted : Type 0
UpdateIsNoted =
    (p : Point) (x : Acceptance) (sent a : ℕ) (pin : Key) (s : Step)
    → masters (knowledge_at p) a pin ≡ true → is_change_in (pins (knowledge_at p)) pin x ≡ true
    → step_of (part (tree_at p) pin) x.request.body ≡ Some s
    → IsLogMore p (after_deed p (Accepts (x ∷ [])) sent) a pin s

-- 3. and by nobody else, and in no other context.
abbrev pub NoOtherNotes : Type 0
NoOtherNotes =
    (p : Point) (x : Acceptance) (sent a : ℕ) (pin : Key)
    → (masters (knowledge_at p) a pin ≡ false) ⊎ (is_change_in (pins (knowledge_at p)) pin x ≡ false)
    → IsLogOf p (after_deed p (Accepts (x ∷ [])) sent) a pin

-- 4. A change more is kept behind the last 255 of those that were kept, and where 256 were kept the oldest one's moment
-- is the base.
pub record IsKeptMore (log : Log) (c : Changes) (m : ℕ) (s : Step) : Type 0 where
  pub last : last_256 (log ++ (m, s) ∷ []) ≡ drop (length (last_256 log) - 255) (last_256 log) ++ (m, s) ∷ []
  pub base : base_of (record c { moments = m ∷ c.moments })
      ≡ (if nat_lt (length (last_256 log)) 256 then base_of c
      else in_option (base_of c) (λ y. y.0) (first_of (last_256 log)))

abbrev pub KeptGrows : Type 0
KeptGrows = (log : Log) (c : Changes) (m : ℕ) (s : Step) → moments_of log ≡ reverse c.moments → IsKeptMore log c m s
