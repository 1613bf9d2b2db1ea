-- The counts of the blocks of a run's commands, by what agents do with each message (X.518, sections 17 to 21).
use Rattle.std.specs.Prelude.{◌≡◌, List, [], ◌∷◌, ◌++◌}
use Rattle.std.specs.List.{AllByRecursion}
use Rattle.x5_model_output.specs.Summary.{Counts, counts_of, capped_counts}
use Rattle.x5_model_run.specs.History.{Did, Point}
use Rattle.x5_model_run.specs.Run.{Command, Block, IsRun}
use Rattle.x5_model_script.specs.Lines.{Asked}
use Rattle.x5_model_settled.specs.Held.{BySteps}
use Rattle.x5_model_settled.specs.Runs.{IsAskable}
use Rattle.x5_model_tree.specs.World.{names_of_agents}
use Rattle.x5_model_world.specs.WorldFile.{File}
use Rattle.x5_world.specs.State.{Net, StandsAt}
use Rattle.xdir.specs.Blocks.{Gives}
use Rattle.xdir.specs.Taken.{IsCommand, AreCommands, point}

-- the counts of some blocks, then of these and a command's
pub record CountsOneMore (p : Point) (asked : Asked) (net : Net) (blocks : List Block) (new : Counts) : Type 0 where
  pub command : Command
  pub is : IsCommand (names_of_agents p.described) asked command
  pub askable : IsAskable p.described command
  pub block : Block
  pub gives : Gives p command net block
  pub counted : new ≡ capped_counts (counts_of (blocks ++ block ∷ []))

abbrev pub AddsBlock : Point → Asked → Net → Counts → Counts → Type 0
AddsBlock p asked net old new =
    (blocks : List Block) → old ≡ capped_counts (counts_of blocks) → CountsOneMore p asked net blocks new

-- the counts are those of the blocks of what these lines ask for, which agents carry out over the world of this file;
-- then the network is that of the next line
pub record IsCounted (f : File) (asked : List Asked) (net : Net) (counts : Counts) : Type 0 where
  pub commands : List Command
  pub are : AreCommands (names_of_agents f.world) asked commands
  pub blocks : List Block
  pub past : List Did
  pub runs : IsRun BySteps f.world commands blocks past
  pub askable : AllByRecursion (IsAskable f.world) commands
  pub stands : StandsAt net (point f.world past)
  pub counted : counts ≡ capped_counts (counts_of blocks)
