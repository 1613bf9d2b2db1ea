-- Runs: where the world's texts are UTF-8 and what its lines ask for is within the limits of messages, so is each
-- message that agents send, and each reply, which is one to what was asked.
use Rattle.std.specs.Prelude.{◌≡◌, ℕ, nat_lt, true, List, length, zip}
use Rattle.std.specs.declared.result.Result.TheVariants.{Ok, Err}
use Rattle.x5_model.specs.Requests.{Request}
use Rattle.x5_model.specs.Answers.{Reply}
use Rattle.x5_model_tree.specs.World.{World}
use Rattle.x5_model_tree.specs.Described.{IsDescribed}
use Rattle.x5_model_run.specs.Journal.{Journal}
use Rattle.x5_model_run.specs.History.{Did}
use Rattle.x5_model_run.specs.Run.{Command, Blank, Asks, Changes, Drops, Updates, Hands, Block, Replies, Handed}
use Rattle.x5_model_run.specs.Run.{Judge, IsRun}
use Rattle.x5_model_fitting.specs.Names.{Each}
use Rattle.x5_model_fitting.specs.Requests.{CountWithin, RequestWithin}
use Rattle.x5_model_limits.specs.Messages.{BoundedMessage, BoundedReply}
use Rattle.x5_model_limits.specs.Doing.{BoundedJournal}
use Rattle.x5_model_limits.specs.Described.{world_is_utf8, BoundedPast}
use Rattle.x5_model_limits.specs.Operations.{IsReplyTo}

-- a line's request, or the message that its octets spell, comes to an agent of a world that has so many
abbrev pub BoundedCommand : ℕ → Command → Type 0
BoundedCommand n Blank = Unit {0}
BoundedCommand n (Asks to r) = (nat_lt to n ≡ true) × RequestWithin r
BoundedCommand n (Changes o) = Unit {0}
BoundedCommand n (Drops reply k) = Unit {0}
BoundedCommand n (Updates number pushes total) = Unit {0}
BoundedCommand n (Hands via to count (Ok m)) = (nat_lt to n ≡ true) × BoundedMessage m
BoundedCommand n (Hands via to count (Err b)) = Unit {0}

-- 3. What such lines accepted, however their blocks are judged.
abbrev pub AcceptedBounded : Judge → Type 0
AcceptedBounded judge =
    (n : ℕ) (w : World) (commands : List Command) (blocks : List Block) (past : List Did)
    → IsRun judge w commands blocks past → Each (BoundedCommand n) commands → BoundedPast past

-- the reply to a request and the messages between agents
pub record BoundedExchange (n : ℕ) (r : Request) (j : Journal) (reply : Reply) : Type 0 where
  pub within : BoundedReply reply
  pub asked : IsReplyTo r.body reply
  pub messages : BoundedJournal n j

-- a line with what it brings about
abbrev pub BoundedBlock : ℕ → Command → Block → Type 0
BoundedBlock n (Asks to r) (Replies j reply) = BoundedExchange n r j reply
BoundedBlock n (Hands via to count (Ok m)) (Handed by k j reply) = BoundedExchange n m.request j reply
BoundedBlock n command block = Unit {0}

-- 4. What such lines bring about, where blocks are what agents do, and four octets count the lines.
abbrev pub RunsBounded : Judge → Type 0
RunsBounded judge =
    (w : World) (commands : List Command) (blocks : List Block) (past : List Did)
    → IsDescribed w → world_is_utf8 w ≡ true → IsRun judge w commands blocks past
    → Each (BoundedCommand (length w.agents)) commands → CountWithin (length commands)
    → Each (λ l. BoundedBlock (length w.agents) l.0 l.1) (zip commands blocks)
