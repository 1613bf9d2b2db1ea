-- What `run WORLD SCRIPT` reads and writes, by how it ends. The headline is `Runs`.
use Rattle.std.specs.Prelude.{◌≡◌, ℕ, ◌⊎◌, List, [], ◌∷◌, ◌++◌, length, Option, Some, Ok, Err, ⊤}
use Rattle.x5_know.specs.Moments.{moment_text}
use Rattle.x5_model_output.specs.Output.{PrintsRun}
use Rattle.x5_model_run.specs.Run.{Command}
use Rattle.x5_model_script.specs.Lines.{Asked}
use Rattle.x5_model_script.specs.Script.{script_of}
use Rattle.x5_model_script.specs.Words.{Fault}
use Rattle.x5_model_settled.specs.Held.{Performed}
use Rattle.x5_model_tree.specs.World.{World, names_of_agents}
use Rattle.x5_model_world.specs.Reading.{Breach}
use Rattle.x5_model_world.specs.WorldFile.{File, Describes, IsNoJson}
use Rattle.x5_port.specs.Outside as outside
use Rattle.x5_port.specs.Outside.{IsContent, IsLonger, Rose}
use Rattle.x5_words.specs.Forms.{FileNames}
use Rattle.xdir.specs.Outcomes.{most_octets, Wrote, Broke, Ends, IsReadable}
use Rattle.xdir.specs.Taken.{AreCommands}
use Rattle.xdir.specs.Text.{not_json_text, refused_world_text, refused_line_text}
use Rattle.xdir.specs.declared.top.Status.{Status}
use Rattle.xdir.specs.declared.top.Status.TheVariants.{Done, Refused, Usage, ReadFault, WriteFault, NoMemory}
use Rattle.xdir.specs.declared.top.Status.TheVariants.{Inconsistent, TooLong}

-- how many replies a world loses by itself
abbrev pub lost_in : World → ℕ
lost_in w = length w.network.lost_replies

-- what the lines of a script ask for, or the first that is refused, over this world
abbrev pub AsksFor : World → List ℕ → List Asked → Type 0
AsksFor w script asked = script_of (names_of_agents w) (lost_in w) script ≡ Ok asked

-- The text is the output of a run of these commands over the world of this file: the line on knowledge, and for each
-- command one block, in order: what agents do with it, by what they hold, at the point that the blocks before it lead
-- to; and over consistent knowledge it's right and whole.
abbrev pub IsOutput : File → List Command → List ℕ → Type 0
IsOutput f commands text = PrintsRun Performed f.world (moment_text f.start) commands text

-- The headline: these octets are the contents of both files, as far as the files tell them; the world file describes
-- this world, the script's lines ask for these commands, and the text is the output of a run of them. The rest of the
-- script is still to come.
pub record Runs (told : Option (List outside.File)) (names : FileNames) (rest : List Asked)
    (text : List ℕ) : Type 0 where
  pub world : List ℕ
  pub script : List ℕ
  pub world_is : IsContent told names.world world
  pub script_is : IsContent told names.script script
  pub file : File
  pub described : Describes world (Ok file)
  pub asked : List Asked
  pub asks : AsksFor file.world script (asked ++ rest)
  pub commands : List Command
  pub are : AreCommands (names_of_agents file.world) asked commands
  pub prints : IsOutput file commands text

-- the output of the script's first commands, of which one more at least is still to come
pub record RunsSoFar (told : Option (List outside.File)) (names : FileNames) (text : List ℕ) : Type 0 where
  pub next : Asked
  pub rest : List Asked
  pub runs : Runs told names (next ∷ rest) text

-- the file is no JSON, or something is wrong in it, and the text is its line
pub data RefusesFile (world text : List ℕ) : Type 0 where
  no_json : IsNoJson world → text ≡ not_json_text → RefusesFile world text
  faulty : (b : Breach) → Describes world (Err b) → text ≡ refused_world_text b → RefusesFile world text

pub record RefusesWorld (told : Option (List outside.File)) (name text : List ℕ) : Type 0 where
  pub world : List ℕ
  pub world_is : IsContent told name world
  pub refuses : RefusesFile world text

-- the script has a line that is refused, and the text is the line of the first one
pub record RefusesScript (w : World) (script text : List ℕ) : Type 0 where
  pub number : ℕ
  pub fault : Fault
  pub refused : script_of (names_of_agents w) (lost_in w) script ≡ Err (number, fault)
  pub is_line : text ≡ refused_line_text number fault

-- over the world that the file describes
pub record RefusesLine (told : Option (List outside.File)) (names : FileNames) (text : List ℕ) : Type 0 where
  pub world : List ℕ
  pub script : List ℕ
  pub world_is : IsContent told names.world world
  pub script_is : IsContent told names.script script
  pub file : File
  pub described : Describes world (Ok file)
  pub refuses : RefusesScript file.world script text

abbrev pub Refuses : Option (List outside.File) → FileNames → List ℕ → Type 0
Refuses told names text = RefusesWorld told names.world text ⊎ RefusesLine told names text

abbrev pub Writes : Status → Option (List outside.File) → FileNames → Option (List ℕ) → Option (List ℕ) → ℕ → ℕ → Type 0
Writes status told names old new before after =
    Ends (Runs told names []) (RunsSoFar told names) (Refuses told names) status old new before after

-- the line of a refused world was written, or a first part of it
abbrev pub StopsAtWorld : Status → Option (List outside.File) → List ℕ → Option (List ℕ) → Option (List ℕ) → Type 0
StopsAtWorld Refused told name old new = Wrote (RefusesWorld told name) old new
StopsAtWorld WriteFault told name old new = Broke (RefusesWorld told name) old new
StopsAtWorld other told name old new = ⊥

-- the world file is there, isn't too long, and describes a world
pub record TakesWorld (told : Option (List outside.File)) (name : List ℕ) : Type 0 where
  pub readable : IsReadable told name
  pub world : List ℕ
  pub world_is : IsContent told name world
  pub file : File
  pub described : Describes world (Ok file)

-- What is known of the two files, by how a run ends. The script is read unless the world is refused, whose line is then
-- what was written; so a fault of the script is told only where the world is taken.
abbrev pub FilesRead : Status → FileNames → Option (List outside.File) → ℕ → ℕ → Option (List ℕ) → Option (List ℕ) →
    Option (List ℕ) → Type 0
FilesRead Done names told before after failed old new = IsReadable told names.world × IsReadable told names.script
FilesRead Refused names told before after failed old new =
    IsReadable told names.world × (StopsAtWorld Refused told names.world old new ⊎ IsReadable told names.script)
FilesRead WriteFault names told before after failed old new =
    IsReadable told names.world × (StopsAtWorld WriteFault told names.world old new ⊎ IsReadable told names.script)
FilesRead NoMemory names told before after failed old new = ⊤
FilesRead ReadFault names told before after failed old new =
    Rose before after × ((failed ≡ Some names.world) ⊎ (failed ≡ Some names.script) × TakesWorld told names.world)
FilesRead TooLong names told before after failed old new =
    IsLonger told names.world most_octets ⊎ IsLonger told names.script most_octets × TakesWorld told names.world
FilesRead Usage names told before after failed old new = ⊥
FilesRead Inconsistent names told before after failed old new = ⊥
