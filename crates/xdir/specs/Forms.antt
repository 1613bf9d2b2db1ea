-- What the program reads and writes, by the form of words.
use Rattle.std.specs.Prelude.{◌≡◌, ℕ, true, false, List, Option}
use Rattle.x5_port.specs.Outside.{File}
use Rattle.xdir.specs.Checked.{WritesChecked, ReadsChecked}
use Rattle.xdir.specs.Generated.{WritesGenerated}
use Rattle.xdir.specs.Made.{WritesText}
use Rattle.xdir.specs.Run.{Writes, FilesRead}
use Rattle.xdir.specs.Shown.{WritesShown}
use Rattle.xdir.specs.Steps.{ReadsFile}
use Rattle.xdir.specs.Summed.{WritesSummed}
use Rattle.xdir.specs.Tree.{WritesTree, ReadsTree}
use Rattle.xdir.specs.declared.top.Status.{Status}
use Rattle.x5_words.specs.Forms.{Form, Run, Check, Tree, GenRun, GenWorld, GenScript, Show}
use Rattle.x5_gen.specs.World as generated
use Rattle.x5_gen.specs.Script as drawn

-- what is known of the files, by the form of words and how it ends
abbrev pub ReadsForm : Form → Status → Option (List File) → ℕ → ℕ → Option (List ℕ) → Option (List ℕ) →
    Option (List ℕ) → Type 0
ReadsForm (Run names summary) status told before after failed old new =
    FilesRead status names told before after failed old new
ReadsForm (Check name) status told before after failed old new = ReadsChecked status name told before after failed
ReadsForm (Tree names) status told before after failed old new = ReadsTree status names told before after failed old new
ReadsForm (GenRun number) status told before after failed old new = after ≡ before
ReadsForm (GenWorld number) status told before after failed old new = after ≡ before
ReadsForm (GenScript number) status told before after failed old new = after ≡ before
ReadsForm (Show name) status told before after failed old new = ReadsFile status name told before after failed

-- what is written, by the form of words and how it ends
abbrev pub WritesForm : Form → Status → Option (List File) → Option (List ℕ) → Option (List ℕ) → ℕ → ℕ → Type 0
WritesForm (Run names false) status told old new before after = Writes status told names old new before after
WritesForm (Run names true) status told old new before after = WritesSummed status told names old new before after
WritesForm (Check name) status told old new before after = WritesChecked status told name old new before after
WritesForm (Tree names) status told old new before after = WritesTree status told names old new before after
WritesForm (GenRun number) status told old new before after = WritesGenerated status number old new before after
WritesForm (GenWorld number) status told old new before after =
    WritesText status (generated.world_text number) old new before after
WritesForm (GenScript number) status told old new before after =
    WritesText status (drawn.script_text number) old new before after
WritesForm (Show name) status told old new before after = WritesShown status told name old new before after
