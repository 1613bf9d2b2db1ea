-- What comes of one command of a run, by what agents do with a message (X.518, sections 17 to 21), and what is written
-- of it.
use Rattle.std.specs.Prelude.{◌≡◌, ℕ, Bool, true, List, [], Option, None, Some}
use Rattle.x5_know.specs.Moments.{moment_text}
use Rattle.x5_model_output.specs.Output.{names_of, number_of, block_text}
use Rattle.x5_model_run.specs.History.{Did, Point}
use Rattle.x5_model_run.specs.Run as model
use Rattle.x5_model_run.specs.Run.{Command, Block, Silent, did_by}
use Rattle.x5_model_run.specs.Journal as messages
use Rattle.x5_model_run.specs.Refresh as refresh
use Rattle.x5_model_script.specs.Lines.{Asked}
use Rattle.x5_model_settled.specs.Held.{BySteps}
use Rattle.x5_model_settled.specs.Runs.{IsAskable}
use Rattle.x5_model_world.specs.WorldFile.{File}
use Rattle.x5_ops.specs.AnswerViews.{reply_view}
use Rattle.x5_ops.specs.JournalViews.{protocol_view}
use Rattle.x5_ops.specs.RefreshViews.{shadows_view, refreshed_view}
use Rattle.x5_ops.specs.declared.journal.Journal.{Journal}
use Rattle.x5_ops.specs.declared.journal.Refreshed.{Refreshed}
use Rattle.x5_port.specs.Outside.{Rose}
use Rattle.x5_report.specs.Blocks.{block_known, raw_of, IsJournal}
use Rattle.x5_report.specs.declared.report.LineOutcome.{LineOutcome}
use Rattle.x5_report.specs.declared.report.LineOutcome.TheVariants.{Set, Answered, Plain, NotConsistent}
use Rattle.x5_report.specs.declared.report.LineOutcome.TheVariants.{Handed, Rejected}
use Rattle.x5_report.specs.declared.report.LineOutcome.TheVariants as outcomes
use Rattle.x5_typed.specs.Breaches.{breach_view}
use Rattle.x5_world.specs.State.{Net, StandsAt, after}
use Rattle.x5_model_tree.specs.World.{names_of_agents}
use Rattle.xdir.specs.Outcomes.{Wrote, Broke}
use Rattle.xdir.specs.Taken.{IsCommand, point}
use Rattle.xdir.specs.declared.lines.Course.{Course}
use Rattle.xdir.specs.declared.top.Status.{Status}
use Rattle.xdir.specs.declared.top.Status.TheVariants.{Done, Refused, Usage, ReadFault, WriteFault, NoMemory}
use Rattle.xdir.specs.declared.top.Status.TheVariants.{Inconsistent, TooLong}

-- at this line the command has this block, and then it's the network of the next line
pub record Gives (p : Point) (command : Command) (net : Net) (block : Block) : Type 0 where
  pub is : model.IsBlock BySteps p command block
  pub stands : StandsAt net (after (did_by command block) p)

-- they stand for the block of a refresh by the agreement that the command names: the same messages are printed, and the
-- same became of it (X.525, sections 11 and 12)
pub record IsRefresh (names : List (List ℕ)) (command : Command) (j : Journal) (number : ℕ) (f : Refreshed)
    (heard : Bool) (b : Block) : Type 0 where
  pub refreshing : refresh.RefreshBlock
  pub agreement : number_of command ≡ number
  pub lines : refreshing.lines ≡ shadows_view names j.lines
  pub outcome : refreshing.outcome ≡ refreshed_view heard number f
  pub is : b ≡ model.Refreshing refreshing

-- the outcome and its messages stand for the block of a run's command
abbrev pub IsTold : List (List ℕ) → Command → Journal → LineOutcome → Block → Type 0
IsTold names command j Set b = b ≡ model.Set
IsTold names command j (Answered reply) b =
    (m : messages.Journal) × IsJournal names j m × (b ≡ model.Replies m (reply_view names reply))
IsTold names command j (Plain reply) b = ⊥
IsTold names command j (outcomes.Refreshed number f heard) b = IsRefresh names command j number f heard b
IsTold names command j NotConsistent b =
    (j.lines ≡ []) × (b ≡ model.Refreshing (refresh.ended [] refresh.NotConsistent))
IsTold names command j (Handed dsp count reply) b =
    (m : messages.Journal) × IsJournal names j m
    × (b ≡ model.Handed (protocol_view dsp) count m (reply_view names reply))
IsTold names command j (Rejected dsp to count fate breach) b =
    b ≡ model.Rejected (raw_of names dsp to count fate) (breach_view breach)

-- what came of a command: of a comment nothing is told
pub record IsCourse (p : Point) (command : Command) (net : Net) (c : Course) : Type 0 where
  pub block : Block
  pub gives : Gives p command net block
  pub told : IsTold (names_of_agents p.described) command c.journal c.outcome block
  pub known : block_known (names_of_agents p.described) c.journal c.outcome ≡ true

abbrev pub IsCarriedOut : Point → Command → Net → Option Course → Type 0
IsCarriedOut p command net None = Gives p command net Silent
IsCarriedOut p command net (Some c) = IsCourse p command net c

-- what a line asks for was done, as this command
pub record IsDone (p : Point) (asked : Asked) (net : Net) (o : Option Course) : Type 0 where
  pub command : Command
  pub is : IsCommand (names_of_agents p.described) asked command
  pub askable : IsAskable p.described command
  pub carried : IsCarriedOut p command net o

-- The text is what is printed of what came of a command in this line: the block of it in a run.
pub record IsTextOf (f : File) (line : ℕ) (c : Course) (text : List ℕ) : Type 0 where
  pub prints : (command : Command) (block : Block) → IsTold (names_of_agents f.world) command c.journal c.outcome block
      → block_known (names_of_agents f.world) c.journal c.outcome ≡ true
      → text ≡ block_text (names_of f.world (moment_text f.start)) line command block

-- what is written of it
abbrev pub WritesCourse : Status → File → ℕ → Course → Option (List ℕ) → Option (List ℕ) → ℕ → ℕ → Type 0
WritesCourse Done f line c old new before after = Wrote (IsTextOf f line c) old new
WritesCourse WriteFault f line c old new before after = Rose before after × Broke (IsTextOf f line c) old new
WritesCourse NoMemory f line c old new before after = new ≡ old
WritesCourse Refused f line c old new before after = ⊥
WritesCourse Usage f line c old new before after = ⊥
WritesCourse ReadFault f line c old new before after = ⊥
WritesCourse Inconsistent f line c old new before after = ⊥
WritesCourse TooLong f line c old new before after = ⊥

-- the text is the command's block; that of a comment is empty
pub record IsBlockText (f : File) (past : List Did) (line : ℕ) (command : Command) (net : Net)
    (text : List ℕ) : Type 0 where
  pub block : Block
  pub gives : Gives (point f.world past) command net block
  pub printed : text ≡ block_text (names_of f.world (moment_text f.start)) line command block

-- it's that of the command that a line asks for
pub record IsAskedText (f : File) (past : List Did) (line : ℕ) (asked : Asked) (net : Net) (text : List ℕ) : Type 0
  where
    pub command : Command
    pub is : IsCommand (names_of_agents f.world) asked command
    pub askable : IsAskable f.world command
    pub text_is : IsBlockText f past line command net text

-- what is written of a line's block
abbrev pub WritesBlock : Status → File → List Did → ℕ → Asked → Net → Option (List ℕ) → Option (List ℕ) → ℕ → ℕ →
    Type 0
WritesBlock Done f past line asked net old new before after = Wrote (IsAskedText f past line asked net) old new
WritesBlock WriteFault f past line asked net old new before after =
    Rose before after × Broke (IsAskedText f past line asked net) old new
WritesBlock NoMemory f past line asked net old new before after = new ≡ old
WritesBlock Refused f past line asked net old new before after = ⊥
WritesBlock Usage f past line asked net old new before after = ⊥
WritesBlock ReadFault f past line asked net old new before after = ⊥
WritesBlock Inconsistent f past line asked net old new before after = ⊥
WritesBlock TooLong f past line asked net old new before after = ⊥
