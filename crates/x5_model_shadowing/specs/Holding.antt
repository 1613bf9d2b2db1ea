-- What agents hold that refreshes can send, in a world that has so many agents (X.525, section 7: shadowed information;
-- X.501, section 22: the knowledge that goes with a naming context): entries and changes that can be sent, and
-- references whose names are within the limits of messages and that name agents of the world alone.
use Rattle.std.specs.Prelude.{◌≡◌, ℕ, true}
use Rattle.x5_model_tree.specs.World.{Specific, Nssr}
use Rattle.x5_model_run.specs.Holdings.{Held, Copy, Holdings}
use Rattle.x5_model_heard.specs.Told.{are_agents}
use Rattle.x5_model_known.specs.Holding.{access_names}
use Rattle.x5_model_refreshed.specs.Steps.{Step}
use Rattle.x5_model_refreshed.specs.Logs.{Log}
use Rattle.x5_model_fitting.specs.Names.{Each, NameWithin}
use Rattle.x5_model_shadowed.specs.Sending.{SendableEntry, SendableStep}

-- a subordinate reference: its pin, the master and the agents that have copies
pub record SendableSpecific (n : ℕ) (k : Specific) : Type 0 where
  pub pin : NameWithin k.pin
  pub named : access_names n k.access ≡ true

-- a non-specific subordinate reference: the entry at which it stands, and its agents
pub record SendableNssr (n : ℕ) (x : Nssr) : Type 0 where
  pub at : NameWithin x.at
  pub named : are_agents n x.agents ≡ true

-- A naming context, mastered or copied, with the references that go with it. The prefix stands in a reference to the
-- context, where its master masters the context above too.
pub record SendableContext (n : ℕ) (c : Held) : Type 0 where
  pub prefix : NameWithin c.prefix
  pub entries : Each SendableEntry c.entries
  pub subordinate : Each (SendableSpecific n) c.subordinate
  pub nssrs : Each (SendableNssr n) c.nssrs

-- All contexts that an agent holds, as their master or as copies.
pub record SendableHoldings (n : ℕ) (h : Holdings) : Type 0 where
  pub own : Each (SendableContext n) h.own
  pub copies : Each (λ (c : Copy). SendableContext n c.held) h.copies

-- The changes that a log keeps.
abbrev pub SendableLog : Log → Type 0
SendableLog log = Each (λ (x : ℕ × Step). SendableStep x.1) log
