-- A script that agents carry out is a run: block by block, each message by what holds at every line of a run,
-- whatever its judge; all other blocks are judged alike.
use Rattle.std.proofs.Common.{◌≡◌, ℕ, List, [], ◌∷◌, ◌++◌, refl, Some, Ok, Err}
use Rattle.std.specs.List.{AllByRecursion}
use Rattle.x5_model.specs.References.{Chained}
use Rattle.x5_model.specs.Answers.{Reply}
use Rattle.x5_model_tree.specs.World.{World}
use Rattle.x5_model_tree.specs.Consistent.{IsConsistent}
use Rattle.x5_model_tree.specs.Described.{IsDescribed}
use Rattle.x5_model_run.specs.Journal.{Journal}
use Rattle.x5_model_run.specs.History.{Did, Point}
use Rattle.x5_model_run.specs.Chain.{opening}
use Rattle.x5_model_run.specs.Run.{Command, Blank, Asks, Changes, Drops, Updates, Hands, sent_by, Block, Silent, Set, Replies, Refreshing, Handed, Rejected, Judge, IsBlock, IsRun, begin, next}
use Rattle.x5_model_settled.specs.Judges.{RightAndWhole}
use Rattle.x5_model_settled.specs.Runs.{ByAgents, IsAskable, AgentsRunIsRun, AgentsPrintRun}
use Rattle.x5_model_settled.proofs.Settled.{runs_handle_right}

pub before_last : {A : Type 0} (P : A → Type 0) (xs : List A) (x : A) → AllByRecursion P (xs ++ x ∷ [])
    → AllByRecursion P xs × P x
before_last P [] x f = (tt, f.0)
before_last P (y ∷ ys) x f = (let w = before_last P ys x f.1 in ((f.0, w.0), w.1))

-- a block is judged by another judge, where that holds of messages; all other blocks are judged alike
pub block_more : (judge other : Judge) (p : Point) (command : Command) (block : Block)
    → ((first : ℕ) (m : Chained) (j : Journal) (reply : Reply) → sent_by command ≡ Some (first, m)
    → judge p first m j reply → other p first m j reply)
    → IsBlock judge p command block → IsBlock other p command block
block_more judge other p (Asks first r) Silent more is = absurd is
block_more judge other p (Asks first r) Set more is = absurd is
block_more judge other p (Asks first r) (Replies j reply) more is = more first (opening r) j reply refl is
block_more judge other p (Asks first r) (Refreshing b) more is = absurd is
block_more judge other p (Asks first r) (Handed by n j reply) more is = absurd is
block_more judge other p (Asks first r) (Rejected raw breach) more is = absurd is
block_more judge other p Blank Silent more is = tt
block_more judge other p Blank Set more is = absurd is
block_more judge other p Blank (Replies j reply) more is = absurd is
block_more judge other p Blank (Refreshing b) more is = absurd is
block_more judge other p Blank (Handed by n j reply) more is = absurd is
block_more judge other p Blank (Rejected raw breach) more is = absurd is
block_more judge other p (Changes o) Silent more is = absurd is
block_more judge other p (Changes o) Set more is = tt
block_more judge other p (Changes o) (Replies j reply) more is = absurd is
block_more judge other p (Changes o) (Refreshing b) more is = absurd is
block_more judge other p (Changes o) (Handed by n j reply) more is = absurd is
block_more judge other p (Changes o) (Rejected raw breach) more is = absurd is
block_more judge other p (Drops lost k) Silent more is = absurd is
block_more judge other p (Drops lost k) Set more is = tt
block_more judge other p (Drops lost k) (Replies j reply) more is = absurd is
block_more judge other p (Drops lost k) (Refreshing b) more is = absurd is
block_more judge other p (Drops lost k) (Handed by n j reply) more is = absurd is
block_more judge other p (Drops lost k) (Rejected raw breach) more is = absurd is
block_more judge other p (Updates number pushes total) Silent more is = absurd is
block_more judge other p (Updates number pushes total) Set more is = absurd is
block_more judge other p (Updates number pushes total) (Replies j reply) more is = absurd is
block_more judge other p (Updates number pushes total) (Refreshing b) more is = is
block_more judge other p (Updates number pushes total) (Handed by n j reply) more is = absurd is
block_more judge other p (Updates number pushes total) (Rejected raw breach) more is = absurd is
block_more judge other p (Hands via first count (Ok m)) Silent more is = absurd is
block_more judge other p (Hands via first count (Ok m)) Set more is = absurd is
block_more judge other p (Hands via first count (Ok m)) (Replies j reply) more is = absurd is
block_more judge other p (Hands via first count (Ok m)) (Refreshing b) more is = absurd is
block_more judge other p (Hands via first count (Ok m)) (Handed by n j reply) more is =
    (is.0, is.1, more first m j reply refl is.2)
block_more judge other p (Hands via first count (Ok m)) (Rejected raw breach) more is = absurd is
block_more judge other p (Hands via first count (Err x)) Silent more is = absurd is
block_more judge other p (Hands via first count (Err x)) Set more is = absurd is
block_more judge other p (Hands via first count (Err x)) (Replies j reply) more is = absurd is
block_more judge other p (Hands via first count (Err x)) (Refreshing b) more is = absurd is
block_more judge other p (Hands via first count (Err x)) (Handed by n j reply) more is = absurd is
block_more judge other p (Hands via first count (Err x)) (Rejected raw breach) more is = is

module _ (w : World) (described : IsDescribed w) (consistent : IsConsistent w) where
  alike : (commands : List Command) (blocks : List Block) (past : List Did) (command : Command) (block : Block)
      → IsRun ByAgents w commands blocks past → IsAskable w command
      → IsBlock ByAgents (record { described = w; past = past }) command block
      → IsBlock RightAndWhole (record { described = w; past = past }) command block
  alike commands blocks past command block run may =
      block_more ByAgents RightAndWhole (record { described = w; past = past }) command block (λ first m j reply e is.
      let sent = may first m e in
      runs_handle_right ByAgents w commands blocks past first m described consistent run sent.0 j reply sent.1 sent.2 is)

  runs : (commands : List Command) (blocks : List Block) (past : List Did) → AllByRecursion (IsAskable w) commands
      → IsRun ByAgents w commands blocks past → IsRun RightAndWhole w commands blocks past
  runs _ _ _ may begin = begin
  runs _ _ _ may (next {commands = cs} {blocks = bs} {past = before} command block run is) =
      let all = before_last (IsAskable w) cs command may in
      next command block (runs cs bs before all.0 run) (alike cs bs before command block run all.1 is)

pub agents_run_is_run : AgentsRunIsRun
agents_run_is_run w commands blocks past described consistent may run = runs w described consistent commands blocks
    past may run

pub agents_print_run : AgentsPrintRun
agents_print_run w moment commands octets described consistent may prints = record {
  blocks = prints.blocks;
  past = prints.past;
  runs = runs w described consistent commands prints.blocks prints.past may prints.runs;
  octets_are = prints.octets_are;
}
