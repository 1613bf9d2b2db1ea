-- The agents that a world file describes, with their references. `names` are those of all agents.
use Rattle.std.specs.Prelude.{ℕ, ◌+◌, Bool, true, false, not, if◌then◌else◌, List, [], ◌∷◌, ◌++◌, map, Option, Some}
use Rattle.std.specs.Prelude.{None, Ok, Err, option_and_then, codes}
use Rattle.serde_json.specs.Data.{Data, Items, no_items, item}
use Rattle.serde_json.specs.Events.{items_len}
use Rattle.serde_json.specs.Find.{get, as_str}
use Rattle.x5_model.specs.Words.{same_octets}
use Rattle.x5_model.specs.Keys.{Key}
use Rattle.x5_model.specs.Values.{Text, key_of}
use Rattle.x5_model_tree.specs.Described.{is_agent_name, most_contexts, most_references, most_shadows}
use Rattle.x5_model_tree.specs.World.{Specific, Context, Agent}
use Rattle.x5_know.specs.Names.{has_name, with_name}
use Rattle.x5_model_world.specs.Reading.{Read, ◌>>=◌, BadName, RepeatedAgent, at, nth, needed, if_fit, if_few}
use Rattle.x5_model_world.specs.Reading.{members_at, text_at, list_if_any, entry_name_at, only}
use Rattle.x5_model_world.specs.ContextText.{Counts, has_key, agent_of, agent_in, agents_behind, contexts_behind}

-- ---- references of both kinds, in the order of their list

pub record References : Type 0 where
  pub subordinate : List Specific
  pub cross : List Specific
  pub crosses : List Bool

abbrev pub no_references : References
no_references = record { subordinate = []; cross = []; crosses = [] }

-- with one more, which is a cross reference or a subordinate one
abbrev pub with_reference : References → Bool → Specific → References
with_reference r true k =
    record { subordinate = r.subordinate; cross = r.cross ++ k ∷ []; crosses = r.crosses ++ true ∷ [] }
with_reference r false k =
    record { subordinate = r.subordinate ++ k ∷ []; cross = r.cross; crosses = r.crosses ++ false ∷ [] }

abbrev pub of_kind : References → Bool → List Specific
of_kind r true = r.cross
of_kind r false = r.subordinate

abbrev pub pin_keys : List Specific → List Key
pin_keys ks = map (λ k. key_of k.pin) ks

abbrev pub is_cross : Text → Option Bool
is_cross t = if same_octets t (codes "cross") then Some true
    else (if same_octets t (codes "subordinate") then Some false else None)

abbrev pub reference_members : List Text
reference_members = codes "kind" ∷ codes "name" ∷ codes "master" ∷ codes "shadows" ∷ []

-- one more, whose key no other of its kind has
abbrev pub reference_behind : List Text → Text → References → Data → Read References
reference_behind names path before d = do
  members ← members_at path d
  word ← text_at path (codes "kind") d
  cross ← needed (at path (codes "kind")) (is_cross word)
  name ← entry_name_at path (codes "name") d
  pin ← if_fit (at path (codes "name")) (not (has_key (pin_keys (of_kind before cross)) (key_of name))) name
  master ← text_at path (codes "master") d
  texts ← list_if_any path (codes "shadows") d
  few ← if_few (at path (codes "shadows")) most_shadows (items_len texts) texts
  shadows ← agents_behind names (at path (codes "shadows")) 0 [] few
  only path reference_members members
      (with_reference before cross (record {
        pin = pin;
        access = record { master = agent_of names master; shadows = shadows };
      }))

abbrev pub references_behind : List Text → Text → ℕ → References → Items → Read References
references_behind names path i before no_items = Ok before
references_behind names path i before (item d ds) =
    reference_behind names (nth path i) before d >>= λ more. references_behind names path (i + 1) more ds

-- ---- agents

-- a name of its own
abbrev pub new_name : Text → List Text → Text → Read Text
new_name path before t =
    if is_agent_name t then (if has_name before t then Err (RepeatedAgent path) else Ok t) else Err (BadName path)

-- the superior, which may be left out
abbrev pub agent_if_any : List Text → Text → Option Data → Read (Option ℕ)
agent_if_any names path None = Ok None
agent_if_any names path (Some d) = agent_in names path d >>= λ a. Ok (Some a)

abbrev pub agent_members : List Text
agent_members = codes "name" ∷ codes "superior" ∷ codes "contexts" ∷ codes "refs" ∷ []

abbrev pub agent_with : Text → Option ℕ → List Context → References → Agent
agent_with name superior contexts r =
    record {
      name = name;
      superior = superior;
      contexts = contexts;
      subordinate = r.subordinate;
      cross = r.cross;
      crosses = r.crosses;
    }

abbrev pub with_contexts : Counts → ℕ → Counts
with_contexts counts n = record { contexts = n; entries = counts.entries; nssr_agents = counts.nssr_agents }

-- how many contexts there are with those of a list, if they aren't too many
abbrev pub with_these : Text → ℕ → Items → Read ℕ
with_these path used items =
    if_few (at path (codes "contexts")) most_contexts (used + items_len items) (used + items_len items)

-- agents so far, and what the file uses of the limits so far
pub record Agents : Type 0 where
  pub agents : List Agent
  pub counts : Counts

-- one more
abbrev pub agent_behind : List Text → Text → Agents → Data → Read Agents
agent_behind names path before d = do
  members ← members_at path d
  t ← text_at path (codes "name") d
  name ← new_name (at path (codes "name")) (map (λ a. a.name) before.agents) t
  superior ← agent_if_any names (at path (codes "superior")) (get (codes "superior") d)
  items ← list_if_any path (codes "contexts") d
  used ← with_these path before.counts.contexts items
  found ← contexts_behind names (at path (codes "contexts")) 0
      (record { contexts = []; counts = with_contexts before.counts used }) items
  list ← list_if_any path (codes "refs") d
  few_refs ← if_few (at path (codes "refs")) most_references (items_len list) list
  references ← references_behind names (at path (codes "refs")) 0 no_references few_refs
  only path agent_members members
      (record {
        agents = before.agents ++ agent_with name superior found.contexts references ∷ [];
        counts = found.counts;
      })

abbrev pub all_behind : List Text → Text → ℕ → Agents → Items → Read Agents
all_behind names path i before no_items = Ok before
all_behind names path i before (item d ds) =
    agent_behind names (nth path i) before d >>= λ more. all_behind names path (i + 1) more ds

-- ---- the names of all agents, each once

abbrev pub with_text : List Text → Option Text → List Text
with_text names None = names
with_text names (Some t) = with_name names t

abbrev pub names_behind : List Text → Items → List Text
names_behind names no_items = names
names_behind names (item d ds) = names_behind (with_text names (option_and_then as_str (get (codes "name") d))) ds
