-- The naming contexts that a world file describes, with their entries and non-specific references. `names` are those of
-- all agents.
use Rattle.std.specs.Prelude.{ℕ, ◌+◌, Bool, not, ◌&&◌, if◌then◌else◌, List, [], ◌∷◌, ◌++◌, map, length, Option, Some}
use Rattle.std.specs.Prelude.{None, Ok, option_map, codes}
use Rattle.std.specs.List.{find, position, list_any}
use Rattle.serde_json.specs.Data.{Data, Items, no_items, item}
use Rattle.serde_json.specs.Events.{items_len}
use Rattle.serde_json.specs.Find.{as_str}
use Rattle.x5_model.specs.Words.{same_octets}
use Rattle.x5_model.specs.Keys.{Key, same_key, parent}
use Rattle.x5_model.specs.Values.{Text, Name, key_of, last_rdn}
use Rattle.x5_model.specs.Entries.{Named}
use Rattle.x5_model_tree.specs.Described.{most_entries, most_nssr_agents}
use Rattle.x5_model_tree.specs.Tree.{key_at}
use Rattle.x5_model_tree.specs.World.{Nssr, Context}
use Rattle.x5_model_world.specs.Reading.{Read, ◌>>=◌, at, nth, needed, if_fit, if_few, members_at, list_at, list_if_any}
use Rattle.x5_model_world.specs.Reading.{some_at, name_at, entry_name_at, only}
use Rattle.x5_model_world.specs.EntryTexts.{given_behind, entry_given}

-- how much of the world's limits was used so far: contexts, entries, and agents of non-specific references
pub record Counts : Type 0 where
  pub contexts : ℕ
  pub entries : ℕ
  pub nssr_agents : ℕ

-- one of the keys is this
abbrev pub has_key : List Key → Key → Bool
has_key keys k = list_any (same_key k) keys

-- the place of the agent of this name, and behind all agents where nobody has it
abbrev pub or_behind : List Text → Option ℕ → ℕ
or_behind names None = length names
or_behind names (Some place) = place

abbrev pub agent_of : List Text → Text → ℕ
agent_of names t = or_behind names (position (λ n. same_octets n t) names)

-- names of agents in a list, from the place i on, behind those before
abbrev pub agent_in : List Text → Text → Data → Read ℕ
agent_in names path d = needed path (as_str d) >>= λ t. Ok (agent_of names t)

abbrev pub agents_behind : List Text → Text → ℕ → List ℕ → Items → Read (List ℕ)
agents_behind names path i before no_items = Ok before
agents_behind names path i before (item d ds) =
    agent_in names (nth path i) d >>= λ a. agents_behind names path (i + 1) (before ++ a ∷ []) ds

-- ---- entries of a context, behind those before them

-- An entry's whole name. The first entry has the context prefix, as that is spelled. The parent of any other stands
-- before it; its own last RDN stands below the parent's name.
abbrev pub below_parent : List Named → Name → Option Name
below_parent before own =
    option_map (λ above. above.name ++ last_rdn own ∷ []) (find (λ e. same_key (parent (key_of own)) (key_at e)) before)

abbrev pub whole_name : Name → List Named → Name → Option Name
whole_name prefix [] own = if same_key (key_of own) (key_of prefix) then Some prefix else None
whole_name prefix (first ∷ more) own = below_parent (first ∷ more) own

abbrev pub entry_members : List Text
entry_members = codes "name" ∷ codes "attrs" ∷ []

-- the entries with one more, whose key none of them has
abbrev pub entry_behind : Text → Name → List Named → Data → Read (List Named)
entry_behind path prefix before d = do
  members ← members_at path d
  own ← entry_name_at path (codes "name") d
  new ← if_fit (at path (codes "name")) (not (has_key (map key_at before) (key_of own))) own
  name ← needed (at path (codes "name")) (whole_name prefix before new)
  texts ← list_at path (codes "attrs") d
  given ← given_behind (at path (codes "attrs")) 0 [] texts
  entry ← needed path (entry_given (last_rdn new) given)
  only path entry_members members (before ++ record { name = name; entry = entry } ∷ [])

abbrev pub entries_behind : Text → ℕ → Name → List Named → Items → Read (List Named)
entries_behind path i prefix before no_items = Ok before
entries_behind path i prefix before (item d ds) =
    entry_behind (nth path i) prefix before d >>= λ more. entries_behind path (i + 1) prefix more ds

-- ---- non-specific references: each stands at an entry of the context, at which no other one stands, and lists an
-- agent

-- those so far, and how many agents are listed in all that the file has so far
pub record Nssrs : Type 0 where
  pub nssrs : List Nssr
  pub listed : ℕ

abbrev pub nssr_keys : List Nssr → List Key
nssr_keys nssrs = map (λ n. key_of n.at) nssrs

abbrev pub is_place : List Named → List Nssr → Key → Bool
is_place entries before k = has_key (map key_at entries) k && not (has_key (nssr_keys before) k)

-- how many agents are listed with those of a list, if they aren't too many
abbrev pub counted : Text → ℕ → Items → Read ℕ
counted path listed texts =
    if_few (at path (codes "agents")) most_nssr_agents (listed + items_len texts) (listed + items_len texts)

abbrev pub nssr_members : List Text
nssr_members = codes "at" ∷ codes "agents" ∷ []

-- one more
abbrev pub nssr_behind : List Text → Text → List Named → Nssrs → Data → Read Nssrs
nssr_behind names path entries before d = do
  members ← members_at path d
  name ← name_at path (codes "at") d
  place ← if_fit (at path (codes "at")) (is_place entries before.nssrs (key_of name)) name
  texts ← some_at path (codes "agents") d
  listed ← counted path before.listed texts
  agents ← agents_behind names (at path (codes "agents")) 0 [] texts
  only path nssr_members members
      (record { nssrs = before.nssrs ++ record { at = place; agents = agents } ∷ []; listed = listed })

abbrev pub nssrs_behind : List Text → Text → ℕ → List Named → Nssrs → Items → Read Nssrs
nssrs_behind names path i entries before no_items = Ok before
nssrs_behind names path i entries before (item d ds) =
    nssr_behind names (nth path i) entries before d >>= λ more. nssrs_behind names path (i + 1) entries more ds

-- ---- contexts

abbrev pub context_members : List Text
context_members = codes "prefix" ∷ codes "entries" ∷ codes "nssr" ∷ []

-- contexts so far of an agent, and what the file uses of the limits so far; contexts are counted when their list is
-- reached
pub record Contexts : Type 0 where
  pub contexts : List Context
  pub counts : Counts

abbrev pub with_context : Contexts → Name → List Named → Nssrs → ℕ → Contexts
with_context before prefix entries found used = record {
  contexts = before.contexts ++ record { prefix = prefix; entries = entries; nssrs = found.nssrs } ∷ [];
  counts = record { contexts = before.counts.contexts; entries = used; nssr_agents = found.listed };
}

-- how many entries there are with those of a list, if they aren't too many
abbrev pub with_entries : Text → ℕ → Items → Read ℕ
with_entries path used items =
    if_few (at path (codes "entries")) most_entries (used + items_len items) (used + items_len items)

-- one more
abbrev pub context_behind : List Text → Text → Contexts → Data → Read Contexts
context_behind names path before d = do
  members ← members_at path d
  prefix ← entry_name_at path (codes "prefix") d
  items ← some_at path (codes "entries") d
  used ← with_entries path before.counts.entries items
  entries ← entries_behind (at path (codes "entries")) 0 prefix [] items
  list ← list_if_any path (codes "nssr") d
  found ← nssrs_behind names (at path (codes "nssr")) 0 entries
      (record { nssrs = []; listed = before.counts.nssr_agents }) list
  only path context_members members (with_context before prefix entries found used)

abbrev pub contexts_behind : List Text → Text → ℕ → Contexts → Items → Read Contexts
contexts_behind names path i before no_items = Ok before
contexts_behind names path i before (item d ds) =
    context_behind names (nth path i) before d >>= λ more. contexts_behind names path (i + 1) more ds
