-- What a run of messages writes, asked of one agent: message i is line i of a script, and what it's answered is the
-- response to the block of that line. A message that asks nothing of the directory is as a comment to it.
use Rattle.std.specs.Prelude.{◌≡◌, ℕ, List, [], ◌∷◌, ◌++◌, map}
use Rattle.x5_model_tree.specs.World.{World}
use Rattle.x5_model_run.specs.History.{Did}
use Rattle.x5_model_run.specs.Run as run
use Rattle.x5_model_run.specs.Run.{Command, Blank, Block, Silent, Set, Replies, Refreshing, Handed, Rejected, Judge}
use Rattle.x5_model_run.specs.Run.{IsRun}
use Rattle.x5_model_typed.specs.Forms.{Layout}
use Rattle.x5_model_output.specs.Output.{Names, names_of}
use Rattle.x5_model.specs.Values.{Text}
use Rattle.x5_model_ldap.specs.Messages.{Message}
use Rattle.x5_model_ldap.specs.Asking as asking
use Rattle.x5_model_ldap.specs.Asking.{Asked, Asks, Refused, End, ask_of}
use Rattle.x5_model_ldap.specs.Answers.{respond, refuse}

-- those before the first unbind: it ends the run
abbrev unless_end : Message → Asked → List Message → List Message
unless_end m End later = []
unless_end m asked later = m ∷ later

abbrev pub before_end : List Message → List Message
before_end [] = []
before_end (m ∷ ms) = unless_end m (ask_of m) (before_end ms)

abbrev pub command_of : ℕ → Message → Command
command_of to m = by (ask_of m)
  where
    by : Asked → Command
    by (Asks r) = run.Asks to r
    by other = Blank

abbrev pub unasked : Layout → Message → Asked → List ℕ
unasked layout m (Refused code) = refuse layout m code
unasked layout m other = []

abbrev pub response : Layout → Names → Message → Block → List ℕ
response layout names m (Replies j reply) = respond layout names m reply
response layout names m other = unasked layout m (ask_of m)

abbrev pub responses : Layout → Names → List Message → List Block → List ℕ
responses layout names [] bs = []
responses layout names (m ∷ ms) [] = []
responses layout names (m ∷ ms) (b ∷ bs) = response layout names m b ++ responses layout names ms bs

-- The headline: these octets are what the messages up to the first unbind are answered, in order, each by the block of
-- its line, judged at the point that the blocks before it lead to. Nothing else is written.
pub record Answers (judge : Judge) (layout : Layout) (w : World) (moment : ℕ → Text) (to : ℕ) (messages : List Message)
    (octets : List ℕ) : Type 0 where
  pub blocks : List Block
  pub past : List Did
  pub runs : IsRun judge w (map (command_of to) (before_end messages)) blocks past
  pub octets_are : octets ≡ responses layout (names_of w moment) (before_end messages) blocks
