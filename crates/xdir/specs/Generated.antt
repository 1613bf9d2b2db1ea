-- What `gen N` writes: what `run --summary` writes over the files that are made of the number. No other file is read.
use Rattle.std.specs.Prelude.{ℕ, List, [], ◌∷◌, codes, Option, Some}
use Rattle.x5_gen.specs.Script.{script_text}
use Rattle.x5_gen.specs.World.{world_text}
use Rattle.x5_port.specs.Outside.{File}
use Rattle.x5_words.specs.Forms.{FileNames}
use Rattle.xdir.specs.Steps.{Prints}
use Rattle.xdir.specs.Summed.{WritesSummed}
use Rattle.xdir.specs.declared.top.Status.{Status}

-- the files under names of their own
abbrev pub world_name : List ℕ
world_name = codes "world"

abbrev pub script_name : List ℕ
script_name = codes "script"

abbrev pub made_names : FileNames
made_names = record { world = world_name; script = script_name }

abbrev pub made_files : ℕ → List File
made_files number =
    record { name = world_name; content = world_text number }
    ∷ record { name = script_name; content = script_text number } ∷ []

-- it ends neither as a read fault nor as too long, for nothing is read
abbrev pub WritesGenerated : Status → ℕ → Option (List ℕ) → Option (List ℕ) → ℕ → ℕ → Type 0
WritesGenerated status number old new before after =
    Prints status × WritesSummed status (Some (made_files number)) made_names old new before after
