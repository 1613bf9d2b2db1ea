-- One of the contexts that an agent masters, or one of its copies, changes, by its place among them; nothing else of
-- what the agent holds does.
use Rattle.std.specs.Prelude.{◌≡◌, ℕ, List, slice_get, slice_set}
use Rattle.std.specs.declared.option.Option.TheVariants.{Some}
use Rattle.x5_ops.specs.declared.knowledge.Specific.{Specific}
use Rattle.x5_ops.specs.declared.knowledge.Nssr.{Nssr}
use Rattle.x5_holdings.specs.Logs.{Log}
use Rattle.x5_holdings.specs.State.{Kept, CopyKept, State}

pub record IsOwnChanged (old : State) (place : ℕ) (how : Kept → Kept → Type 0) (new : State) : Type 0 where
  pub before : Kept
  pub after : Kept
  pub was : slice_get old.own place ≡ Some before
  pub changed : how before after
  pub new_is : new ≡ record old { own = slice_set old.own place after }

pub record IsCopyChanged (old : State) (place : ℕ) (how : CopyKept → CopyKept → Type 0) (new : State) : Type 0 where
  pub before : CopyKept
  pub after : CopyKept
  pub was : slice_get old.copies place ≡ Some before
  pub changed : how before after
  pub new_is : new ≡ record old { copies = slice_set old.copies place after }

-- what refreshes brought of a copy changes; its stamp stays (X.525, section 9)
pub record IsBroughtChanged (how : Kept → Kept → Type 0) (old after : CopyKept) : Type 0 where
  pub stamp : ℕ
  pub before : Kept
  pub now : Kept
  pub was : old.refreshed ≡ Some (before, stamp)
  pub changed : how before now
  pub after_is : after ≡ record old { refreshed = Some (now, stamp) }

-- a copy keeps the entries that refreshes brought, and has this log, these references and this stamp (X.525, section 11.3)
pub record IsRenewed (log : Log) (subordinate : List Specific) (nssrs : List Nssr) (stamp : ℕ) (old after : CopyKept) : Type 0 where
  pub last : ℕ
  pub before : Kept
  pub was : old.refreshed ≡ Some (before, last)
  pub after_is :
      after ≡ record old { refreshed = Some (record before { log = log; subordinate = subordinate; nssrs = nssrs }, stamp) }
