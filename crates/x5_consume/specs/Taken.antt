-- What a consumer's copy is after a refresh (X.525, sections 7: shadowed information; 9 and 11: total and incremental
-- refreshes). That the log of a copy has the steps at the refresh's stamp is this project's own.
use Rattle.std.specs.Prelude.{◌≡◌, ℕ, true, List, [], ◌∷◌}
use Rattle.std.specs.Option.{is_some}
use Rattle.std.specs.declared.option.Option.{Option}
use Rattle.std.specs.declared.option.Option.TheVariants.{None, Some}
use Rattle.x5_model.specs.Words.{in_option}
use Rattle.x5_model.specs.Keys.{Key}
use Rattle.x5_model.specs.Values.{key_of}
use Rattle.x5_model_run.specs.Holdings.{Copy, Holdings, copy_at}
use Rattle.x5_model_refreshed.specs.Steps.{replay}
use Rattle.x5_model_refreshed.specs.Doable.{CanReplay}
use Rattle.x5_ops.specs.declared.knowledge.Content.{Content}
use Rattle.x5_ops.specs.declared.knowledge.Step.{Step}
use Rattle.x5_dse.specs.Linked.{entries_of}
use Rattle.x5_holdings.specs.Logs.{Log, IsLogged}
use Rattle.x5_holdings.specs.Placed.{IsCopyChanged}
use Rattle.x5_holdings.specs.State.{Kept, CopyKept, State}
use Rattle.x5_consume.specs.Steps.{steps_view}

-- the stamp of the copy of a context: none where it was never refreshed, or is no copy at all
abbrev pub stamp_at : Holdings → Key → Option ℕ
stamp_at h pin = in_option None (λ c. c.stamp) (copy_at h pin)

-- ---- what may come

-- steps that can be done one after another on what refreshes brought of the context
pub record CanTake (h : Holdings) (pin : Key) (given : List Step) : Type 0 where
  pub copy : Copy
  pub there : copy_at h pin ≡ Some copy
  pub refreshed : is_some copy.stamp ≡ true
  pub doable : CanReplay pin copy.held.entries (steps_view given)

-- ---- what is then

-- the one copy of the context changes, and nothing else of what is held
pub record IsTaken (old : State) (pin : Key) (how : CopyKept → CopyKept → Type 0) (new : State) : Type 0 where
  pub place : ℕ
  pub copied : IsCopyChanged old place how new
  pub at : key_of copied.before.prefix ≡ pin

-- it has the content that came, and no changes since the stamp
pub record IsContent (content : Content) (stamp : ℕ) (kept : Kept) : Type 0 where
  pub entries : entries_of kept.nodes.nodes ≡ content.entries
  pub subordinate : kept.subordinate ≡ content.specific
  pub nssrs : kept.nssrs ≡ content.nssr
  pub base : kept.log.base ≡ stamp
  pub changes : kept.log.changes ≡ []

-- after a total refresh: that, with the stamp
pub record IsReplaced (content : Content) (stamp : ℕ) (before after : CopyKept) : Type 0 where
  pub kept : Kept
  pub content_is : IsContent content stamp kept
  pub after_is : after ≡ record before { refreshed = Some (kept, stamp) }

-- each step is noted at the stamp, one after another
abbrev pub AreNoted : ℕ → Log → List Step → Log → Type 0
AreNoted stamp old [] new = (new.base ≡ old.base) × (new.changes ≡ old.changes)
AreNoted stamp old (s ∷ more) new =
    (mid : Log) × IsLogged old (record { moment = stamp; step = s }) mid × AreNoted stamp mid more new

-- its entries are what the steps make of them, the steps are noted, and all else of it is as it was
pub record AreDone (given : List Step) (stamp : ℕ) (old kept : Kept) : Type 0 where
  pub entries : entries_of kept.nodes.nodes ≡ replay (steps_view given) (entries_of old.nodes.nodes)
  pub noted : AreNoted stamp old.log given kept.log
  pub prefix : kept.prefix ≡ old.prefix
  pub subordinate : kept.subordinate ≡ old.subordinate
  pub nssrs : kept.nssrs ≡ old.nssrs

-- after an incremental refresh: that, with the new stamp
pub record IsAdvanced (given : List Step) (stamp : ℕ) (before after : CopyKept) : Type 0 where
  pub old : Kept
  pub last : ℕ
  pub was : before.refreshed ≡ Some (old, last)
  pub kept : Kept
  pub done : AreDone given stamp old kept
  pub after_is : after ≡ record before { refreshed = Some (kept, stamp) }
