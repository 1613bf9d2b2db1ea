-- What a world file describes, or the first thing that is wrong in it, with its path (docs/FORMATS.md, world file).
-- Members are tried in the order of the format, and lists by position. The format is this project's own; the file is a
-- value of JSON (RFC 8259).
use Rattle.std.specs.Prelude.{◌≡◌, ℕ, ◌+◌, Bool, true, false, not, ◌==◌, if◌then◌else◌, List, [], ◌∷◌, ◌++◌, length}
use Rattle.std.specs.Prelude.{Option, Some, None, Ok, Err, option_and_then, codes}
use Rattle.std.specs.List.{find, flat_map, list_any}
use Rattle.std.specs.Str.{IsUtf8}
use Rattle.serde_json.specs.Data.{Data, Items, no_items, item}
use Rattle.serde_json.specs.Events.{items_len}
use Rattle.serde_json.specs.Find.{get, as_number, as_u64}
use Rattle.serde_json.specs.Read.{read}
use Rattle.x5_know.specs.Moments.{Start}
use Rattle.x5_model.specs.Keys.{same_key}
use Rattle.x5_model.specs.Values.{Text, key_of}
use Rattle.x5_model_tree.specs.Described.{most_agents, most_agreements, most_with_copies}
use Rattle.x5_model_tree.specs.World.{Context, Agreement, Network, World}
use Rattle.x5_model_world.specs.Reading.{Read, ◌>>=◌, UnknownAgent, at, nth, needed, if_fit, if_few, members_at}
use Rattle.x5_model_world.specs.Reading.{text_at, some_at, list_if_any, number_at, entry_name_at, only}
use Rattle.x5_model_world.specs.ContextText.{Counts, agent_of}
use Rattle.x5_model_world.specs.AgentText.{all_behind, names_behind}
use Rattle.x5_model_world.specs.NetworkText.{quiet, network_if_any}
use Rattle.x5_model_world.specs.Mentioned.{unknown_in_world}
use Rattle.x5_model_world.specs.StartText.{start_of}

-- ---- agreements

abbrev pub agreement_members : List Text
agreement_members = codes "id" ∷ codes "supplier" ∷ codes "consumer" ∷ codes "context" ∷ []

-- an agreement behind those before, none of which has its number
abbrev pub agreement_in : List Text → Text → List Agreement → Data → Read Agreement
agreement_in names path before d = do
  members ← members_at path d
  number ← number_at path (codes "id") d
  new ← if_fit (at path (codes "id")) (not (list_any (λ g. g.number == number) before)) number
  supplier ← text_at path (codes "supplier") d
  consumer ← text_at path (codes "consumer") d
  context ← entry_name_at path (codes "context") d
  only path agreement_members members
      (record {
        number = new;
        supplier = agent_of names supplier;
        consumer = agent_of names consumer;
        context = context;
      })

abbrev pub agreements_behind : List Text → Text → ℕ → List Agreement → Items → Read (List Agreement)
agreements_behind names path i before no_items = Ok before
agreements_behind names path i before (item d ds) =
    agreement_in names (nth path i) before d >>= λ g. agreements_behind names path (i + 1) (before ++ g ∷ []) ds

-- an agreement copies the entries of the first context in the file that has its prefix
abbrev pub entries_there : Option Context → ℕ
entries_there None = 0
entries_there (Some c) = length c.entries

abbrev pub copies : List Context → Agreement → ℕ
copies contexts g = entries_there (find (λ c. same_key (key_of c.prefix) (key_of g.context)) contexts)

abbrev pub with_copies : List Context → ℕ → List Agreement → ℕ
with_copies contexts entries [] = entries
with_copies contexts entries (g ∷ gs) = with_copies contexts (entries + copies contexts g) gs

-- ---- the world

pub record File : Type 0 where
  pub start : Start
  pub world : World

abbrev pub none_yet : Counts
none_yet = record { contexts = 0; entries = 0; nssr_agents = 0 }

-- format 1, or format 2, which has a network
abbrev pub if_format : ℕ → Option Bool
if_format n = if n == 1 then Some false else (if n == 2 then Some true else None)

abbrev pub format_of : Data → Option Bool
format_of d = option_and_then if_format (option_and_then as_u64 (option_and_then as_number (get (codes "format") d)))

abbrev pub world_members : Bool → List Text
world_members has_network =
    codes "format" ∷ codes "start" ∷ codes "agents" ∷ codes "agreements"
    ∷ (if has_network then codes "network" ∷ [] else [])

abbrev pub network_of : List Text → Bool → Data → Read Network
network_of names has_network d = if has_network then network_if_any names (get (codes "network") d) else Ok quiet

-- the world, of which agents have these names
abbrev pub world_in : List Text → Bool → Start → Items → Data → Read File
world_in names has_network start items d = do
  members ← members_at (codes "") d
  found ← all_behind names (codes "/agents") 0 (record { agents = []; counts = none_yet }) items
  list ← list_if_any (codes "") (codes "agreements") d
  few ← if_few (codes "/agreements") most_agreements (items_len list) list
  agreements ← agreements_behind names (codes "/agreements") 0 [] few
  all ← if_few (codes "/agreements") most_with_copies
      (with_copies (flat_map (λ a. a.contexts) found.agents) found.counts.entries agreements) agreements
  network ← network_of names has_network d
  only (codes "") (world_members has_network) members
      (record { start = start; world = record { agents = found.agents; agreements = all; network = network } })

-- names that refer to agents are looked at last
abbrev pub if_known : File → Option Text → Read File
if_known f None = Ok f
if_known f (Some path) = Err (UnknownAgent path)

-- what a value of JSON describes
abbrev pub file_of : Data → Read File
file_of d = do
  members ← members_at (codes "") d
  has_network ← needed (codes "/format") (format_of d)
  stamp ← text_at (codes "") (codes "start") d
  start ← needed (codes "/start") (start_of stamp)
  items ← some_at (codes "") (codes "agents") d
  few ← if_few (codes "/agents") most_agents (items_len items) items
  f ← world_in (names_behind [] few) has_network start few d
  if_known f (unknown_in_world (names_behind [] few) d)

-- ---- the file

-- its octets are this value of JSON
pub record IsJson (octets : List ℕ) (d : Data) : Type 0 where
  pub utf8 : IsUtf8 octets
  pub is_read : read octets ≡ Some d

-- they are none
abbrev pub IsNoJson : List ℕ → Type 0
IsNoJson octets = IsUtf8 octets → read octets ≡ None

-- they are JSON, of which this is read
pub record Describes (octets : List ℕ) (found : Read File) : Type 0 where
  pub value : Data
  pub is_json : IsJson octets value
  pub is_found : file_of value ≡ found
