-- The network that a world file of format 2 describes. `names` are those of all agents.
use Rattle.std.specs.Prelude.{ℕ, ◌+◌, Bool, not, ◌&&◌, ◌||◌, ◌==◌, List, [], ◌∷◌, ◌++◌, map, Option, Some, None, Ok}
use Rattle.std.specs.Prelude.{option_and_then, codes}
use Rattle.std.specs.List.{list_any}
use Rattle.serde_json.specs.Data.{Data, Items, no_items, item}
use Rattle.serde_json.specs.Events.{items_len}
use Rattle.serde_json.specs.Find.{as_str, as_array}
use Rattle.x5_model.specs.Words.{same_octets}
use Rattle.x5_model.specs.Values.{Text}
use Rattle.x5_model_tree.specs.Described.{most_cut, most_lost_messages, most_lost_replies}
use Rattle.x5_model_tree.specs.World.{Network}
use Rattle.x5_model_world.specs.Reading.{Read, ◌>>=◌, at, nth, needed, if_fit, if_few, members_at, list_if_any}
use Rattle.x5_model_world.specs.Reading.{number_of, only}
use Rattle.x5_model_world.specs.ContextText.{agent_of}

-- ---- agents, each once

abbrev pub has_text : List Text → Text → Bool
has_text before t = list_any (same_octets t) before

abbrev pub text_behind : Text → List Text → Data → Read Text
text_behind path before d = needed path (as_str d) >>= λ t. if_fit path (not (has_text before t)) t

abbrev pub texts_behind : Text → ℕ → List Text → Items → Read (List Text)
texts_behind path i before no_items = Ok before
texts_behind path i before (item d ds) =
    text_behind (nth path i) before d >>= λ t. texts_behind path (i + 1) (before ++ t ∷ []) ds

abbrev pub agents_at : List Text → Text → Data → Read (List ℕ)
agents_at names name d = do
  items ← list_if_any (codes "/network") name d
  texts ← texts_behind (at (codes "/network") name) 0 [] items
  Ok (map (agent_of names) texts)

-- ---- pairs of two different agents, each once, in either order

abbrev pub Texts : Type 0
Texts = Text × Text

abbrev pub same_texts : Texts → Texts → Bool
same_texts p q = same_octets p.0 q.0 && same_octets p.1 q.1

abbrev pub has_pair : List Texts → Text → Text → Bool
has_pair before a b = list_any (same_texts (a, b)) before || list_any (same_texts (b, a)) before

abbrev pub two_texts : Option Text → Option Text → Option Texts
two_texts None b = None
two_texts (Some a) None = None
two_texts (Some a) (Some b) = Some (a, b)

abbrev pub pair_of : Items → Option Texts
pair_of no_items = None
pair_of (item c no_items) = None
pair_of (item c (item d no_items)) = two_texts (as_str c) (as_str d)
pair_of (item c (item d (item e ds))) = None

abbrev pub pair_behind : Text → List Texts → Data → Read Texts
pair_behind path before d =
    needed path (option_and_then pair_of (as_array d)) >>= λ p. if_fit path (not (same_octets p.0 p.1)
    && not (has_pair before p.0 p.1)) p

abbrev pub pairs_behind : Text → ℕ → List Texts → Items → Read (List Texts)
pairs_behind path i before no_items = Ok before
pairs_behind path i before (item d ds) =
    pair_behind (nth path i) before d >>= λ p. pairs_behind path (i + 1) (before ++ p ∷ []) ds

abbrev pub pair_of_agents : List Text → Texts → ℕ × ℕ
pair_of_agents names p = (agent_of names p.0, agent_of names p.1)

abbrev pub cut_at : List Text → Data → Read (List (ℕ × ℕ))
cut_at names d = do
  items ← list_if_any (codes "/network") (codes "cut") d
  few ← if_few (codes "/network/cut") most_cut (items_len items) items
  pairs ← pairs_behind (codes "/network/cut") 0 [] few
  Ok (map (pair_of_agents names) pairs)

-- ---- numbers of messages, each once

abbrev pub number_behind : Text → List ℕ → Data → Read ℕ
number_behind path before d = needed path (number_of d) >>= λ n. if_fit path (not (list_any (λ k. n == k) before)) n

abbrev pub numbers_behind : Text → ℕ → List ℕ → Items → Read (List ℕ)
numbers_behind path i before no_items = Ok before
numbers_behind path i before (item d ds) =
    number_behind (nth path i) before d >>= λ n. numbers_behind path (i + 1) (before ++ n ∷ []) ds

abbrev pub numbers_at : ℕ → Text → Data → Read (List ℕ)
numbers_at most name d = do
  items ← list_if_any (codes "/network") name d
  few ← if_few (at (codes "/network") name) most (items_len items) items
  numbers_behind (at (codes "/network") name) 0 [] few

-- ---- the network

abbrev pub network_members : List Text
network_members = codes "down" ∷ codes "refuse" ∷ codes "cut" ∷ codes "loseMessages" ∷ codes "loseReplies" ∷ []

abbrev pub network_in : List Text → Data → Read Network
network_in names d = do
  members ← members_at (codes "/network") d
  down ← agents_at names (codes "down") d
  refusing ← agents_at names (codes "refuse") d
  cut ← cut_at names d
  messages ← numbers_at most_lost_messages (codes "loseMessages") d
  replies ← numbers_at most_lost_replies (codes "loseReplies") d
  only (codes "/network") network_members members
      (record { down = down; refusing = refusing; cut = cut; lost_messages = messages; lost_replies = replies })

-- a network in which nothing is down, cut, refusing or lost
abbrev pub quiet : Network
quiet = record { down = []; refusing = []; cut = []; lost_messages = []; lost_replies = [] }

abbrev pub network_if_any : List Text → Option Data → Read Network
network_if_any names None = Ok quiet
network_if_any names (Some d) = network_in names d
