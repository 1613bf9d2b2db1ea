-- What is so of whatever a world file describes (docs/FORMATS.md, world file): statements, which this crate's
-- functions name.
use Rattle.std.specs.Prelude.{◌≡◌, ℕ, ◌≤◌, false, ◌⊎◌, List, [], map, length, Some, Ok, codes}
use Rattle.serde_json.specs.Data.{Data}
use Rattle.x5_model.specs.Members.{In}
use Rattle.x5_model.specs.Entries.{Named}
use Rattle.x5_model_tree.specs.Masters.{all_entries}
use Rattle.x5_model_tree.specs.Described.{IsDescribed}
use Rattle.x5_model_world.specs.Reading.{Read}
use Rattle.x5_model_world.specs.AgentText.{names_behind}
use Rattle.x5_model_world.specs.NetworkText.{quiet}
use Rattle.x5_model_world.specs.Mentioned.{items_at}
use Rattle.x5_model_world.specs.WorldFile.{File, file_of, format_of, IsNoJson, Describes}

-- The world of a file is a described world: its agents, contexts, entries, references, agreements and network keep
-- the rules and the
-- limits, and each name and each value has the normal form of its text.
abbrev pub FilesAreDescribed : Type 0
FilesAreDescribed = (d : Data) (f : File) → file_of d ≡ Ok f → IsDescribed f.world

-- So no theorem on described worlds needs a premise on names: those of entries have 16 RDNs at most.
abbrev pub NamesAreShort : Type 0
NamesAreShort = (d : Data) (f : File) → file_of d ≡ Ok f → (e : Named) → In e (all_entries f.world) → length e.name ≤ 16

-- Its agents are those whose names the file gives, in their order: an agent's place in the world is its place in the
-- file.
abbrev pub PlacesAreTheFiles : Type 0
PlacesAreTheFiles = (d : Data) (f : File) → file_of d ≡ Ok f → names_behind [] (items_at (codes "agents") d)
    ≡ map (λ a. a.name) f.world.agents

-- Format 1 has no network: nothing is down, cut, refusing or lost.
abbrev pub FirstFormatIsQuiet : Type 0
FirstFormatIsQuiet = (d : Data) (f : File) → file_of d ≡ Ok f → format_of d ≡ Some false → f.world.network ≡ quiet

-- Octets describe one thing at most: one file, or one first breach. Octets in UTF-8 either are no JSON or describe
-- something, never both.
abbrev pub OneReading : Type 0
OneReading =
    (octets : List ℕ) (found other : Read File) → Describes octets found → Describes octets other → found ≡ other

abbrev pub SomeReading : Type 0
SomeReading = (octets : List ℕ) → IsNoJson octets ⊎ ((found : Read File) × Describes octets found)

abbrev pub NotBoth : Type 0
NotBoth = (octets : List ℕ) (found : Read File) → IsNoJson octets → Describes octets found → ⊥
