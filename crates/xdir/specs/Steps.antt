-- What the steps of a run read and write, from the described world on; and of a file that is read, by how that ends.
use Rattle.std.specs.Prelude.{◌≡◌, ℕ, List, ◌∷◌, ◌++◌, Option, Some, ⊤}
use Rattle.x5_model_run.specs.Run.{Command}
use Rattle.x5_model_script.specs.Lines.{Asked}
use Rattle.x5_model_tree.specs.World.{names_of_agents}
use Rattle.x5_model_world.specs.WorldFile.{File}
use Rattle.x5_port.specs.Outside as outside
use Rattle.x5_port.specs.Outside.{IsContent, IsLonger, Rose, with_octets, TookPrefix}
use Rattle.xdir.specs.Outcomes.{most_octets, Wrote, Broke, Ends, IsReadable}
use Rattle.xdir.specs.Run.{AsksFor, IsOutput, RefusesScript}
use Rattle.xdir.specs.Taken.{AreCommands}
use Rattle.xdir.specs.declared.top.Status.{Status}
use Rattle.xdir.specs.declared.top.Status.TheVariants.{Done, Refused, Usage, ReadFault, WriteFault, NoMemory}
use Rattle.xdir.specs.declared.top.Status.TheVariants.{Inconsistent, TooLong}

-- the output of a run of what these lines ask for, and of the first of them, where one more at least is still to come
pub record IsAskedOutput (f : File) (asked : List Asked) (text : List ℕ) : Type 0 where
  pub commands : List Command
  pub are : AreCommands (names_of_agents f.world) asked commands
  pub prints : IsOutput f commands text

pub record IsFirstAskedOutput (f : File) (asked : List Asked) (text : List ℕ) : Type 0 where
  pub first : List Asked
  pub next : Asked
  pub rest : List Asked
  pub parts : asked ≡ first ++ next ∷ rest
  pub prints : IsAskedOutput f first text

-- the line of a file that isn't taken was written, or a first part of it
abbrev pub WritesLine : Status → List ℕ → Option (List ℕ) → Option (List ℕ) → ℕ → ℕ → Type 0
WritesLine Refused line old new before after = new ≡ with_octets line old
WritesLine WriteFault line old new before after = Rose before after × TookPrefix line old new
WritesLine Done line old new before after = ⊥
WritesLine NoMemory line old new before after = ⊥
WritesLine ReadFault line old new before after = ⊥
WritesLine TooLong line old new before after = ⊥
WritesLine Usage line old new before after = ⊥
WritesLine Inconsistent line old new before after = ⊥

-- such a line was, or memory ran out before
abbrev pub WritesSuchLine : Status → (List ℕ → Type 0) → Option (List ℕ) → Option (List ℕ) → ℕ → ℕ → Type 0
WritesSuchLine Refused P old new before after = Wrote P old new
WritesSuchLine WriteFault P old new before after = Rose before after × Broke P old new
WritesSuchLine NoMemory P old new before after = new ≡ old
WritesSuchLine Done P old new before after = ⊥
WritesSuchLine ReadFault P old new before after = ⊥
WritesSuchLine TooLong P old new before after = ⊥
WritesSuchLine Usage P old new before after = ⊥
WritesSuchLine Inconsistent P old new before after = ⊥

-- what a run of these lines over the world of this file writes: no line of a script that reads is refused
abbrev pub WritesRun : Status → File → List Asked → Option (List ℕ) → Option (List ℕ) → ℕ → ℕ → Type 0
WritesRun status f asked old new before after =
    Ends (IsAskedOutput f asked) (IsFirstAskedOutput f asked) (λ text. ⊥) status old new before after

-- the output of the script's lines over this world, and of the first of them
pub record IsScriptOutput (f : File) (script text : List ℕ) : Type 0 where
  pub asked : List Asked
  pub asks : AsksFor f.world script asked
  pub prints : IsAskedOutput f asked text

pub record IsFirstScriptOutput (f : File) (script text : List ℕ) : Type 0 where
  pub asked : List Asked
  pub asks : AsksFor f.world script asked
  pub first : IsFirstAskedOutput f asked text

-- what a run of this script over this world writes
abbrev pub WritesScript : Status → File → List ℕ → Option (List ℕ) → Option (List ℕ) → ℕ → ℕ → Type 0
WritesScript status f script old new before after =
    Ends (IsScriptOutput f script) (IsFirstScriptOutput f script)
    (RefusesScript f.world script) status old new before after

-- what a run of the script in this file over this world writes
abbrev pub OfScript : Option (List outside.File) → List ℕ → (List ℕ → List ℕ → Type 0) → List ℕ → Type 0
OfScript told name P text = (script : List ℕ) × IsContent told name script × P script text

abbrev pub WritesScriptFile : Status → Option (List outside.File) → List ℕ → File → Option (List ℕ) → Option (List ℕ) →
    ℕ → ℕ → Type 0
WritesScriptFile status told name f old new before after =
    Ends (OfScript told name (IsScriptOutput f)) (OfScript told name (IsFirstScriptOutput f))
    (OfScript told name (RefusesScript f.world)) status old new before after

-- what is known of a file that is read, by how that ends: a script's over a world that was read, or one that is shown
abbrev pub ReadsFile : Status → List ℕ → Option (List outside.File) → ℕ → ℕ → Option (List ℕ) → Type 0
ReadsFile Done name told before after failed = IsReadable told name
ReadsFile Refused name told before after failed = IsReadable told name
ReadsFile WriteFault name told before after failed = IsReadable told name
ReadsFile NoMemory name told before after failed = ⊤
ReadsFile ReadFault name told before after failed = Rose before after × (failed ≡ Some name)
ReadsFile TooLong name told before after failed = IsLonger told name most_octets
ReadsFile Usage name told before after failed = ⊥
ReadsFile Inconsistent name told before after failed = ⊥

-- what ends a script that is read
abbrev pub Prints : Status → Type 0
Prints Done = ⊤
Prints Refused = ⊤
Prints WriteFault = ⊤
Prints NoMemory = ⊤
Prints Usage = ⊥
Prints ReadFault = ⊥
Prints Inconsistent = ⊥
Prints TooLong = ⊥
