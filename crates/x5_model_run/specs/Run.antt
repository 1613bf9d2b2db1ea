-- Whole runs: one block for each line of a script, each right at the point that the blocks before it lead to.
use Rattle.std.specs.Prelude.{◌≡◌, ℕ, ◌+◌, Bool, List, [], ◌∷◌, ◌++◌, length, map, reverse, ⊤}
use Rattle.std.specs.declared.option.Option.{Option}
use Rattle.std.specs.declared.option.Option.TheVariants.{None, Some}
use Rattle.std.specs.declared.result.Result.{Result}
use Rattle.std.specs.declared.result.Result.TheVariants.{Ok, Err}
use Rattle.x5_model.specs.Requests.{Request}
use Rattle.x5_model.specs.References.{Chained}
use Rattle.x5_model.specs.Answers.{Reply}
use Rattle.x5_model_tree.specs.World.{World}
use Rattle.x5_model_octets.specs.Breaches.{Breach}
use Rattle.x5_model_run.specs.Network.{Outage, Fate, fate_of}
use Rattle.x5_model_run.specs.Journal.{Journal}
use Rattle.x5_model_run.specs.History.{Deed, Nothing, Outs, Loses, Accepts, Refreshes, Did}
use Rattle.x5_model_run.specs.History.{Point, network_at, sent_before}
use Rattle.x5_model_run.specs.Chain.{opening}
use Rattle.x5_model_run.specs.Refresh.{RefreshOutcome, Done, RefreshBlock, refresh_block}

-- as whose message octets are handed over: a user's, or another agent's (X.519, section 7: DAP and DSP)
pub data Protocol : Type 0 where
  Dap : Protocol
  Dsp : Protocol

-- a line of a script: a comment or an empty one; a request to an agent; what happens to the network; a refresh by an
-- agreement's number, pushed or pulled, total or incremental; so many octets that are handed to an agent as a message
-- of a protocol, which spell this message, or have this first breach (X.690)
pub data Command : Type 0 where
  Blank : Command
  Asks : ℕ → Request → Command
  Changes : Outage → Command
  Drops : Bool → ℕ → Command
  Updates : ℕ → Bool → Bool → Command
  Hands : Protocol → ℕ → ℕ → Result Chained Breach → Command

-- which message goes to whom, if any: a request of a user is one for which nothing is resolved yet
abbrev pub sent_by : Command → Option (ℕ × Chained)
sent_by (Asks to r) = Some (to, opening r)
sent_by (Hands via to count (Ok m)) = Some (to, m)
sent_by other = None

-- octets on their way to an agent: as a message of which protocol, how many, and what becomes of them
pub record Raw : Type 0 where
  pub protocol : Protocol
  pub receiver : ℕ
  pub count : ℕ
  pub fate : Fate

-- what a line brings about: nothing that is told; a changed network; the messages and the reply of a request; those of
-- a refresh; those of a message that so many octets brought, the first one standing for them; octets that bring none
pub data Block : Type 0 where
  Silent : Block
  Set : Block
  Replies : Journal → Reply → Block
  Refreshing : RefreshBlock → Block
  Handed : Protocol → ℕ → Journal → Reply → Block
  Rejected : Raw → Breach → Block

-- How the block of a message is judged that a user sends. Over consistent knowledge that is `SendsRight`.
abbrev pub Judge : Type 1
Judge = Point → ℕ → Chained → Journal → Reply → Type 0

-- octets are a message like others: the user sends them
abbrev pub raw_to : Point → Protocol → ℕ → ℕ → Raw
raw_to p via to count = record {
  protocol = via;
  receiver = to;
  count = count;
  fate = fate_of (network_at p) (sent_before p.past + 1) None to;
}

-- A message that octets spell is judged as any other. Others are told by their first breach.
abbrev pub IsBlock : Judge → Point → Command → Block → Type 0
IsBlock judge p Blank Silent = ⊤
IsBlock judge p (Asks to r) (Replies j reply) = judge p to (opening r) j reply
IsBlock judge p (Changes o) Set = ⊤
IsBlock judge p (Drops reply k) Set = ⊤
IsBlock judge p (Updates number pushes total) (Refreshing b) = b ≡ refresh_block p number pushes total
IsBlock judge p (Hands via to count (Ok m)) (Handed by n j reply) = (by ≡ via) × (n ≡ count) × judge p to m j reply
IsBlock judge p (Hands via to count (Err b)) (Rejected raw breach) = (raw ≡ raw_to p via to count) × (breach ≡ b)
IsBlock judge p other block = ⊥

-- what later lines see of it
abbrev pub accepted_by : Request → Journal → Deed
accepted_by r j = by (reverse j.accepted)
  where
    by : List ℕ → Deed
    by [] = Nothing
    by (a ∷ more) = Accepts (map (λ x. record { agent = x; request = r }) (a ∷ more))

abbrev pub refreshed_by : RefreshOutcome → Deed
refreshed_by (Done f) = Refreshes f
refreshed_by other = Nothing

abbrev pub did_by : Command → Block → Did
did_by (Changes o) block = record { deed = Outs o; sent = 0 }
did_by (Drops reply k) block = record { deed = Loses reply k; sent = 0 }
did_by (Asks to r) (Replies j reply) = record { deed = accepted_by r j; sent = length j.lines }
did_by (Updates number pushes total) (Refreshing b) = record { deed = refreshed_by b.outcome; sent = length b.lines }
did_by (Hands via to count (Ok m)) (Handed by n j reply) =
    record { deed = accepted_by m.request j; sent = length j.lines }
did_by (Hands via to count (Err b)) (Rejected raw breach) = record { deed = Nothing; sent = 1 }
did_by other block = record { deed = Nothing; sent = 0 }

-- the lines so far with their blocks, and what they did, the newest first
pub data IsRun (judge : Judge) (w : World) : List Command → List Block → List Did → Type 0 where
  begin : IsRun judge w [] [] []
  next : {commands : List Command} {blocks : List Block} {past : List Did} (command : Command) (block : Block) →
      IsRun judge w commands blocks past → IsBlock judge (record { described = w; past = past }) command block →
      IsRun judge w (commands ++ command ∷ []) (blocks ++ block ∷ []) (did_by command block ∷ past)
