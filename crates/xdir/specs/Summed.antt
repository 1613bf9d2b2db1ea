-- What `run --summary WORLD SCRIPT` writes, by how it ends. The headline is `Sums`.
use Rattle.std.specs.Prelude.{◌≡◌, ℕ, ◌⊎◌, List, [], Option}
use Rattle.x5_know.specs.Moments.{moment_text}
use Rattle.x5_model_counted.specs.Lines.{summary_of}
use Rattle.x5_model_output.specs.Summary.{summary_text}
use Rattle.x5_model_run.specs.Run.{Command}
use Rattle.x5_model_script.specs.Lines.{Asked}
use Rattle.x5_model_tree.specs.World.{names_of_agents}
use Rattle.x5_model_world.specs.WorldFile.{File}
use Rattle.x5_port.specs.Outside as outside
use Rattle.x5_port.specs.Outside.{Rose}
use Rattle.x5_words.specs.Forms.{FileNames}
use Rattle.xdir.specs.Outcomes.{Wrote, Broke}
use Rattle.xdir.specs.Run.{AsksFor, IsOutput, Runs, RefusesScript, Refuses}
use Rattle.xdir.specs.Steps.{OfScript}
use Rattle.xdir.specs.Taken.{AreCommands}
use Rattle.xdir.specs.declared.top.Status.{Status}
use Rattle.xdir.specs.declared.top.Status.TheVariants.{Done, Refused, Usage, ReadFault, WriteFault, NoMemory}
use Rattle.xdir.specs.declared.top.Status.TheVariants.{Inconsistent, TooLong}

-- The text is the summary of a run of these commands over the world of this file: the line on knowledge, and the counts
-- of the blocks that the run's output has.
pub record IsSummary (f : File) (commands : List Command) (text : List ℕ) : Type 0 where
  pub output : List ℕ
  pub prints : IsOutput f commands output
  pub sums_up : text ≡ summary_text f.world (moment_text f.start) prints.blocks

-- The headline: some output is that of `run` without `--summary`, of the whole script, and the text is the summary that
-- the script and that output tell: the output's first line, and how many lines begin with which word.
pub record Sums (told : Option (List outside.File)) (names : FileNames) (text : List ℕ) : Type 0 where
  pub output : List ℕ
  pub runs : Runs told names [] output
  pub sums_up : text ≡ summary_of runs.script output

-- What is written, by how such a run ends. Before all commands are run nothing is; then the whole output, the line of a
-- refusal, or a first part of one of these.
abbrev pub EndsAtOnce : (List ℕ → Type 0) → (List ℕ → Type 0) → Status → Option (List ℕ) → Option (List ℕ) → ℕ → ℕ →
    Type 0
EndsAtOnce output refusal Done old new before after = Wrote output old new
EndsAtOnce output refusal Refused old new before after = Wrote refusal old new
EndsAtOnce output refusal WriteFault old new before after =
    Rose before after × Broke (λ text. output text ⊎ refusal text) old new
EndsAtOnce output refusal NoMemory old new before after = new ≡ old
EndsAtOnce output refusal ReadFault old new before after = new ≡ old
EndsAtOnce output refusal TooLong old new before after = new ≡ old
EndsAtOnce output refusal Usage old new before after = ⊥
EndsAtOnce output refusal Inconsistent old new before after = ⊥

-- what `run --summary` writes, by how it ends
abbrev pub WritesSummed : Status → Option (List outside.File) → FileNames → Option (List ℕ) → Option (List ℕ) → ℕ → ℕ →
    Type 0
WritesSummed status told names old new before after =
    EndsAtOnce (Sums told names) (Refuses told names) status old new before after

-- ---- the steps of such a run, from the described world on

-- the summary of what these lines ask for
pub record IsAskedSummary (f : File) (asked : List Asked) (text : List ℕ) : Type 0 where
  pub commands : List Command
  pub are : AreCommands (names_of_agents f.world) asked commands
  pub sums : IsSummary f commands text

-- what a summary of these lines over the world of this file writes
abbrev pub SumsRun : Status → File → List Asked → Option (List ℕ) → Option (List ℕ) → ℕ → ℕ → Type 0
SumsRun status f asked old new before after =
    EndsAtOnce (IsAskedSummary f asked) (λ text. ⊥) status old new before after

-- of the script's lines over this world
pub record IsScriptSummary (f : File) (script text : List ℕ) : Type 0 where
  pub asked : List Asked
  pub asks : AsksFor f.world script asked
  pub sums : IsAskedSummary f asked text

abbrev pub SumsScript : Status → File → List ℕ → Option (List ℕ) → Option (List ℕ) → ℕ → ℕ → Type 0
SumsScript status f script old new before after =
    EndsAtOnce (IsScriptSummary f script) (RefusesScript f.world script) status old new before after

-- of the script in this file over this world
abbrev pub SumsScriptFile : Status → Option (List outside.File) → List ℕ → File → Option (List ℕ) → Option (List ℕ) →
    ℕ → ℕ → Type 0
SumsScriptFile status told name f old new before after =
    EndsAtOnce (OfScript told name (IsScriptSummary f))
    (OfScript told name (RefusesScript f.world)) status old new before after
