-- What `tree WORLD SCRIPT` reads and writes, by how it ends: the script's requests, answered without agents on the one
-- tree of the world (X.501, section 7: the directory information tree). The headline is `Tells`.
use Rattle.std.specs.Prelude.{◌≡◌, ℕ, ◌⊎◌, List, ◌∷◌, ◌++◌, map, Option, Some, Ok, ⊤}
use Rattle.x5_know.specs.Moments.{moment_text}
use Rattle.x5_model.specs.Answers.{Source}
use Rattle.x5_model.specs.Requests.{Request}
use Rattle.x5_model_output.specs.Plain.{tree_text}
use Rattle.x5_model_run.specs.Network.{Up}
use Rattle.x5_model_run.specs.Run.{Command, Changes}
use Rattle.x5_model_script.specs.Lines.{Asked, Delivers}
use Rattle.x5_model_script.specs.Lines as lines
use Rattle.x5_model_tree.specs.Ask.{ask}
use Rattle.x5_model_tree.specs.Consistent.{IsConsistent}
use Rattle.x5_model_tree.specs.Tree.{Tree}
use Rattle.x5_model_world.specs.WorldFile.{File, Describes}
use Rattle.x5_one.specs.Replies.{reply_of}
use Rattle.x5_ops.specs.AnswerViews.{reply_view}
use Rattle.x5_ops.specs.declared.answers.Reply.{Reply}
use Rattle.x5_port.specs.Outside as outside
use Rattle.x5_port.specs.Outside.{IsContent, IsLonger, Rose}
use Rattle.x5_script.specs.Views.{command_view}
use Rattle.x5_script.specs.declared.command.Command.{Command as Line}
use Rattle.x5_words.specs.Forms.{FileNames}
use Rattle.xdir.specs.Checked.{knowledge_text, IsInconsistent}
use Rattle.xdir.specs.Outcomes.{most_octets, Wrote, Broke, IsReadable}
use Rattle.xdir.specs.Run.{AsksFor, RefusesScript, RefusesWorld, Refuses, TakesWorld}
use Rattle.xdir.specs.Steps.{OfScript}
use Rattle.xdir.specs.declared.top.Status.{Status}
use Rattle.xdir.specs.declared.top.Status.TheVariants.{Done, Refused, Usage, ReadFault, WriteFault, NoMemory}
use Rattle.xdir.specs.declared.top.Status.TheVariants.{Inconsistent, TooLong}

-- What a line asks for, as a command of the one tree. Octets that are handed to an agent are no request to it: like
-- every line that is none they print `set`, as an agent that comes up does.
abbrev pub plain_command : Asked → Command
plain_command (lines.Runs command) = command
plain_command (Delivers dsp to octets) = Changes (Up to)

abbrev pub plain_view : Line → Command
plain_view c = plain_command (command_view c)

-- The text is what the one tree of this file's world prints for these lines: that the knowledge is consistent, and for
-- each line its block, as the tree answers it that all lines before have left.
abbrev pub IsTreeText : File → List Asked → List ℕ → Type 0
IsTreeText f asked text = text ≡ tree_text f.world (moment_text f.start) (map plain_command asked)

-- Both files are taken: these octets are their contents, as far as the files tell them; the world file describes this
-- world, and the script's lines ask for this over it.
pub record TakesBoth (told : Option (List outside.File)) (names : FileNames) : Type 0 where
  pub world : List ℕ
  pub script : List ℕ
  pub world_is : IsContent told names.world world
  pub script_is : IsContent told names.script script
  pub file : File
  pub described : Describes world (Ok file)
  pub asked : List Asked
  pub asks : AsksFor file.world script asked

-- The headline: the text is what the one tree prints for the whole script, where the world's knowledge is consistent.
pub record Tells (told : Option (List outside.File)) (names : FileNames) (text : List ℕ) : Type 0 where
  pub both : TakesBoth told names
  pub consistent : IsConsistent both.file.world
  pub prints : IsTreeText both.file both.asked text

-- for the script's first lines, where one more at least is still to come
pub record TellsSoFar (told : Option (List outside.File)) (names : FileNames) (text : List ℕ) : Type 0 where
  pub both : TakesBoth told names
  pub consistent : IsConsistent both.file.world
  pub first : List Asked
  pub next : Asked
  pub rest : List Asked
  pub parts : both.asked ≡ first ++ next ∷ rest
  pub prints : IsTreeText both.file first text

-- the text is the line on knowledge that isn't consistent: there is no one tree
pub record TellsNone (told : Option (List outside.File)) (names : FileNames) (text : List ℕ) : Type 0 where
  pub both : TakesBoth told names
  pub inconsistent : IsInconsistent both.file.world
  pub is_line : text ≡ knowledge_text both.file.world

-- What is written, by how it ends: the whole output, the line on knowledge or of a refusal, a first part of one of
-- these or of the output for some first lines, or the output for the lines before the one at which memory ran out;
-- before both files are read nothing is, but the line of a refused world.
abbrev pub EndsTree : (List ℕ → Type 0) → (List ℕ → Type 0) → (List ℕ → Type 0) → (List ℕ → Type 0) → Status
    → Option (List ℕ) → Option (List ℕ) → ℕ → ℕ → Type 0
EndsTree output first none refusal Done old new before after = Wrote output old new
EndsTree output first none refusal Inconsistent old new before after = Wrote none old new
EndsTree output first none refusal Refused old new before after = Wrote refusal old new
EndsTree output first none refusal WriteFault old new before after =
    Rose before after × Broke (λ text. (output text ⊎ first text) ⊎ (none text ⊎ refusal text)) old new
EndsTree output first none refusal NoMemory old new before after = (new ≡ old) ⊎ Wrote first old new
EndsTree output first none refusal ReadFault old new before after = new ≡ old
EndsTree output first none refusal TooLong old new before after = new ≡ old
EndsTree output first none refusal Usage old new before after = ⊥

abbrev pub WritesTree : Status → Option (List outside.File) → FileNames → Option (List ℕ) → Option (List ℕ) → ℕ → ℕ →
    Type 0
WritesTree status told names old new before after =
    EndsTree (Tells told names) (TellsSoFar told names) (TellsNone told names)
    (Refuses told names) status old new before after

-- What is known of the two files, by how it ends. The script is read unless the world file is refused, whose line is
-- then what was written; so a fault of the script is told only where the world file describes a world.
abbrev pub ReadsTree : Status → FileNames → Option (List outside.File) → ℕ → ℕ → Option (List ℕ) → Option (List ℕ)
    → Option (List ℕ) → Type 0
ReadsTree Done names told before after failed old new = IsReadable told names.world × IsReadable told names.script
ReadsTree Inconsistent names told before after failed old new =
    IsReadable told names.world × IsReadable told names.script
ReadsTree Refused names told before after failed old new =
    IsReadable told names.world × (Wrote (RefusesWorld told names.world) old new ⊎ IsReadable told names.script)
ReadsTree WriteFault names told before after failed old new =
    IsReadable told names.world × (Broke (RefusesWorld told names.world) old new ⊎ IsReadable told names.script)
ReadsTree NoMemory names told before after failed old new = ⊤
ReadsTree ReadFault names told before after failed old new =
    Rose before after × ((failed ≡ Some names.world) ⊎ (failed ≡ Some names.script) × TakesWorld told names.world)
ReadsTree TooLong names told before after failed old new =
    IsLonger told names.world most_octets ⊎ IsLonger told names.script most_octets × TakesWorld told names.world
ReadsTree Usage names told before after failed old new = ⊥

-- ---- the steps, from the described world on

-- what the one tree prints for these lines, or for the first of them with more to come, and the line where there is
-- none
pub record IsTold (f : File) (asked : List Asked) (text : List ℕ) : Type 0 where
  pub consistent : IsConsistent f.world
  pub prints : IsTreeText f asked text

pub record IsToldSoFar (f : File) (asked : List Asked) (text : List ℕ) : Type 0 where
  pub consistent : IsConsistent f.world
  pub first : List Asked
  pub next : Asked
  pub rest : List Asked
  pub parts : asked ≡ first ++ next ∷ rest
  pub prints : IsTreeText f first text

pub record IsNoTree (f : File) (asked : List Asked) (text : List ℕ) : Type 0 where
  pub inconsistent : IsInconsistent f.world
  pub is_line : text ≡ knowledge_text f.world

-- what is written for these lines
abbrev pub TellsLines : Status → File → List Asked → Option (List ℕ) → Option (List ℕ) → ℕ → ℕ → Type 0
TellsLines status f asked old new before after =
    EndsTree (IsTold f asked) (IsToldSoFar f asked) (IsNoTree f asked) (λ text. ⊥) status old new before after

-- for those of a script
abbrev pub OfLines : File → (File → List Asked → List ℕ → Type 0) → List ℕ → List ℕ → Type 0
OfLines f P script text = (asked : List Asked) × AsksFor f.world script asked × P f asked text

abbrev pub TellsScript : Status → File → List ℕ → Option (List ℕ) → Option (List ℕ) → ℕ → ℕ → Type 0
TellsScript status f script old new before after =
    EndsTree (OfLines f IsTold script) (OfLines f IsToldSoFar script) (OfLines f IsNoTree script)
    (RefusesScript f.world script)
    status old new before after

-- for the script in a file
abbrev pub TellsFile : Status → Option (List outside.File) → List ℕ → File → Option (List ℕ) → Option (List ℕ) → ℕ → ℕ →
    Type 0
TellsFile status told name f old new before after =
    EndsTree (OfScript told name (OfLines f IsTold)) (OfScript told name (OfLines f IsToldSoFar))
    (OfScript told name (OfLines f IsNoTree)) (OfScript told name (RefusesScript f.world)) status old new before after

-- ---- one line

-- the reply tells what the one tree tells, from whatever source
abbrev pub IsReplied : Tree → Request → Reply → Type 0
IsReplied t r reply = (names : List (List ℕ)) → (source : Source) × (reply_view names reply ≡ reply_of source (ask t r))
