-- For private clauses: the last steps of a part of the definition of what a world file describes, one behind the other.
use Rattle.std.specs.Prelude.{ℕ, Bool, ◌&&◌, nat_le, List, [], ◌∷◌, ◌++◌, map, Option, Ok, codes}
use Rattle.std.specs.List.{flat_map}
use Rattle.serde_json.specs.Data.{Data, Items, Members}
use Rattle.serde_json.specs.Events.{items_len}
use Rattle.x5_know.specs.Moments.{Start}
use Rattle.x5_model.specs.Values.{Text}
use Rattle.x5_model_tree.specs.Described.{most_agents, most_agreements, most_cut, most_references, most_shadows, most_with_copies}
use Rattle.x5_model_tree.specs.Described.{most_lost_messages, most_lost_replies}
use Rattle.x5_model_tree.specs.World.{Access, Agent, Agreement, Network}
use Rattle.x5_model_world.specs.AgentText.{Agents, References, agent_members, agent_with, names_behind}
use Rattle.x5_model_world.specs.AgentText.{no_references, references_behind, with_contexts, with_these}
use Rattle.x5_model_world.specs.ContextText.{Contexts, agent_of, agents_behind, contexts_behind}
use Rattle.x5_model_world.specs.Mentioned.{first_of_two, first_at, unknown_text, unknown_in_pair, unknown_in_world}
use Rattle.x5_model_world.specs.NetworkText.{pairs_behind, pair_of_agents, numbers_behind, numbers_at, network_members}
use Rattle.x5_model_world.specs.Reading.{Read, ◌>>=◌, at, needed, if_few, text_at, some_at, list_if_any, only}
use Rattle.x5_model_world.specs.StartText.{two, year_of, is_day, is_time, start_of}
use Rattle.x5_model_world.specs.WorldFile.{File, agreements_behind, with_copies, network_of, world_members, world_in}
use Rattle.x5_model_world.specs.WorldFile.{if_known}

-- ---- the start

-- the date and the time that fifteen octets spell are true ones
abbrev pub is_true_moment : Text → Bool
is_true_moment t =
    (nat_le 1900 (year_of t) && nat_le (year_of t) 9000)
    && (is_day (year_of t) (two t 4) (two t 6) && is_time (two t 8) (two t 10) (two t 12))

-- ---- the agents at which a reference is

abbrev pub access_at : List Text → Text → Data → Read Access
access_at names path d = do
  master ← text_at path (codes "master") d
  texts ← list_if_any path (codes "shadows") d
  few ← if_few (at path (codes "shadows")) most_shadows (items_len texts) texts
  shadows ← agents_behind names (at path (codes "shadows")) 0 [] few
  Ok (record { master = agent_of names master; shadows = shadows })

-- ---- an agent, behind its name and superior

abbrev pub one_more : List Agent → Text → Option ℕ → Contexts → References → Read Agents
one_more before name superior found references =
    Ok (record {
      agents = before ++ agent_with name superior found.contexts references ∷ [];
      counts = found.counts;
    })

-- behind its contexts
abbrev pub referring : List Text → Text → List Agent → Text → Option ℕ → Contexts → Data → Members → Read Agents
referring names path before name superior found d members = do
  list ← list_if_any path (codes "refs") d
  few_refs ← if_few (at path (codes "refs")) most_references (items_len list) list
  references ← references_behind names (at path (codes "refs")) 0 no_references few_refs
  only path agent_members members
      (record {
        agents = before ++ agent_with name superior found.contexts references ∷ [];
        counts = found.counts;
      })

-- behind its superior
abbrev pub settling : List Text → Text → Agents → Text → Option ℕ → Data → Members → Read Agents
settling names path before name superior d members = do
  items ← list_if_any path (codes "contexts") d
  used ← with_these path before.counts.contexts items
  found ← contexts_behind names (at path (codes "contexts")) 0
      (record { contexts = []; counts = with_contexts before.counts used }) items
  referring names path before.agents name superior found d members

-- ---- the network's lists, at a path

abbrev pub cut_in : List Text → Text → Items → Read (List (ℕ × ℕ))
cut_in names path items = do
  few ← if_few path most_cut (items_len items) items
  pairs ← pairs_behind path 0 [] few
  Ok (map (pair_of_agents names) pairs)

abbrev pub numbers_in : ℕ → Text → Items → Read (List ℕ)
numbers_in most path items = do
  few ← if_few path most (items_len items) items
  numbers_behind path 0 [] few

-- a network with these lists
abbrev pub network_with : List ℕ → List ℕ → List (ℕ × ℕ) → List ℕ → List ℕ → Network
network_with down refusing cut messages replies =
    record { down = down; refusing = refusing; cut = cut; lost_messages = messages; lost_replies = replies }

-- the same, behind its agents and pairs
abbrev pub losing : List ℕ → List ℕ → List (ℕ × ℕ) → Members → Data → Read Network
losing down refusing cut members d = do
  messages ← numbers_at most_lost_messages (codes "loseMessages") d
  replies ← numbers_at most_lost_replies (codes "loseReplies") d
  only (codes "/network") network_members members
      (record { down = down; refusing = refusing; cut = cut; lost_messages = messages; lost_replies = replies })

-- the first name there that is no agent's
abbrev pub unknown_there : List Text → Text → Data → Option Text
unknown_there names path d =
    first_of_two (first_at (unknown_text names) path (codes "down") d)
    (first_of_two (first_at (unknown_text names) path (codes "refuse") d)
    (first_at (unknown_in_pair names) path (codes "cut") d))

-- ---- the world

abbrev pub file_with : Start → Agents → List Agreement → Network → File
file_with start found agreements network =
    record { start = start; world = record { agents = found.agents; agreements = agreements; network = network } }

-- behind its agreements
abbrev pub connected : List Text → Bool → Start → Data → Members → Agents → List Agreement → Read File
connected names has_network start d members found agreements = do
  network ← network_of names has_network d
  only (codes "") (world_members has_network) members
      (record { start = start; world = record { agents = found.agents; agreements = agreements; network = network } })

-- behind its agents
abbrev pub agreed : List Text → Bool → Start → Data → Members → Agents → Read File
agreed names has_network start d members found = do
  list ← list_if_any (codes "") (codes "agreements") d
  few ← if_few (codes "/agreements") most_agreements (items_len list) list
  agreements ← agreements_behind names (codes "/agreements") 0 [] few
  all ← if_few (codes "/agreements") most_with_copies
      (with_copies (flat_map (λ a. a.contexts) found.agents) found.counts.entries agreements) agreements
  connected names has_network start d members found all

-- ---- the file

-- behind the list of its agents
abbrev pub inhabited : Bool → Start → Data → Items → Read File
inhabited has_network start d items = do
  f ← world_in (names_behind [] items) has_network start items d
  if_known f (unknown_in_world (names_behind [] items) d)

-- behind its start
abbrev pub begun : Bool → Data → Start → Read File
begun has_network d start = do
  items ← some_at (codes "") (codes "agents") d
  few ← if_few (codes "/agents") most_agents (items_len items) items
  inhabited has_network start d few

-- behind its format
abbrev pub formed : Data → Bool → Read File
formed d has_network = do
  stamp ← text_at (codes "") (codes "start") d
  start ← needed (codes "/start") (start_of stamp)
  begun has_network d start
