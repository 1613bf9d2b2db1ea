-- The network of all agents, as contracts see it; and when it is that of a line of a run (X.518, section 8: the
-- Directory as a distributed system).
use Rattle.std.specs.Prelude.{◌≡◌, ℕ, ◌+◌, ◌*◌, ◌≤◌, true, List, ◌∷◌, length, map, slice_get, Some}
use Rattle.std.specs.declared.option.Option.{Option}
use Rattle.x5_model.specs.Words.{in_option}
use Rattle.x5_model_tree.specs.World.{Agreement, Network, World, names_of_agents}
use Rattle.x5_model_tree.specs.Masters.{mastered}
use Rattle.x5_model_tree.specs.Consistent.{IsConsistent}
use Rattle.x5_model_tree.specs.Described.{IsDescribed}
use Rattle.x5_model_run.specs.Holdings.{Holdings}
use Rattle.x5_model_run.specs.History.{Did, Point, acked, no_holdings, network_at, sent_before}
use Rattle.x5_model_run.specs.Stage.{nssr_pairs}
use Rattle.x5_model_updates.specs.Keeping.{NoneMoved}
use Rattle.x5_model_verdicts.specs.Committing.{IsStamped}
use Rattle.x5_model_refreshed.specs.Replaying.{AllHappen}
use Rattle.x5_model_settled.specs.Held.{held_at}
use Rattle.x5_model_limits.specs.Described.{BoundedPast, world_is_utf8}
use Rattle.x5_model_shadowing.specs.Files.{nssrs_are_utf8}
pub use Rattle.x5_dapber.specs.ShortNames.{HasShortNames}
use Rattle.x5_world.specs.Logs.{Logs, logs_at, no_logs}

-- The agents' names, what each holds and keeps of its changes, in their order; how the network stands; how many
-- messages were sent; what says how many messages a request may take: how many contexts are mastered, and the agents of
-- all NSSRs; the shadowing agreements, and of each the stamp of the last refresh that its supplier knows to be taken
-- (X.525, section 9); and how many lines were done.
pub record Net : Type 0 where
  pub names : List (List ℕ)
  pub agents : List Holdings
  pub logs : List Logs
  pub network : Network
  pub sent : ℕ
  pub contexts : ℕ
  pub pairs : ℕ
  pub agreements : List Agreement
  pub acked : List (Option ℕ)
  pub line : ℕ

-- what the agent of this place holds
abbrev pub holdings_in : Net → ℕ → Holdings
holdings_in n a = in_option (no_holdings a) (λ h. h) (slice_get n.agents a)

-- and the logs that it keeps
abbrev pub logs_in : Net → ℕ → Logs
logs_in n a = in_option no_logs (λ l. l) (slice_get n.logs a)

-- over consistent knowledge each agent keeps the last changes of what it masters and of what refreshes brought
abbrev pub LogsStand : Net → Point → Type 0
LogsStand n p = (a : ℕ) → logs_in n a ≡ logs_at p a

-- its world's texts are UTF-8, and the updates that the lines before accepted are within the limits of messages
pub record IsWithin (p : Point) : Type 0 where
  pub texts : world_is_utf8 p.described ≡ true
  pub references : nssrs_are_utf8 p.described ≡ true
  pub accepted : BoundedPast p.past

-- It is the network of this line, whether or not knowledge is consistent: each agent holds what it holds there, and no
-- context was moved. Over consistent knowledge the stamps of copies are moments of lines before, these lines did what
-- lines of a run do, and agents keep the last changes.
pub record StandsAt (n : Net) (p : Point) : Type 0 where
  pub described : IsDescribed p.described
  pub unmoved : NoneMoved p.past
  pub stamped : IsConsistent p.described → IsStamped p
  pub names : n.names ≡ names_of_agents p.described
  pub holds : (a : ℕ) → holdings_in n a ≡ held_at p a
  pub network : n.network ≡ network_at p
  pub sent : n.sent ≡ sent_before p.past
  pub contexts : n.contexts ≡ length (mastered p.described)
  pub pairs : n.pairs ≡ nssr_pairs p.described
  pub agreements : n.agreements ≡ p.described.agreements
  pub acked : n.acked ≡ map (λ g. acked p g.number) p.described.agreements
  pub line : n.line ≡ length p.past
  pub happened : IsConsistent p.described → AllHappen p.described p.past
  pub logs : IsConsistent p.described → LogsStand n p
  pub within : IsWithin p

-- after one more line
abbrev pub after : Did → Point → Point
after d p = record { described = p.described; past = d ∷ p.past }

-- messages of one request at most
abbrev pub most_messages : ℕ
most_messages = 400000000000

-- After so many lines not too many messages were sent, and not too many replies are to be lost, so that all messages
-- can be counted; and no more lines were done.
pub record HasRoom (n : Net) (lines : ℕ) : Type 0 where
  pub line : n.line ≤ lines
  pub sent : n.sent ≤ lines * most_messages
  pub lost : length n.network.lost_replies ≤ lines + 16
