-- Which keys have which numbers in the tables that `check` looks things up in: the keys of what belongs to each member
-- of a list, with the member's number; and what the tables say of a world.
use Rattle.std.specs.Prelude.{ℕ, not, ◌&&◌, ◌==◌, List, [], ◌∷◌, map, slice_get}
use Rattle.std.specs.List.{list_any, flat_map, enumerate_from}
use Rattle.x5_model.specs.Words.{some_and, is_empty, when}
use Rattle.x5_model.specs.Keys.{Key, same_key, parent, is_child}
use Rattle.x5_model.specs.Values.{key_of}
use Rattle.x5_model_tree.specs.World.{Specific, Nssr, Context, Agent, Agreement}
use Rattle.x5_model_tree.specs.Tree.{keys_of, is_there}
use Rattle.x5_model_tree.specs.Masters.{Mastered, pin_of, is_consumer}
use Rattle.x5_model_tree.specs.Consistent.{in_nssr, refers_to}
use Rattle.x5_check.specs.Rows.{KeyRow, Numbers}

-- each of the keys with the number
abbrev pub keyed : ℕ → List Key → List KeyRow
keyed number keys = map (λ key. (key, number)) keys

-- for each member its keys with its number
abbrev pub rows_by : {A : Type 0} → (A → ℕ) → (A → List Key) → List A → List KeyRow
rows_by number keys xs = flat_map (λ x. keyed (number x) (keys x)) xs

-- a member with this number has the key
abbrev pub numbers_by : {A : Type 0} → (A → ℕ) → (A → List Key) → List A → Numbers
numbers_by number keys xs key n = list_any (λ x. (number x == n) && list_any (λ k. same_key k key) (keys x)) xs

-- ---- the keys of things

abbrev pub prefix_key : Mastered → List Key
prefix_key m = pin_of m ∷ []

abbrev pub entry_keys : Mastered → List Key
entry_keys m = keys_of m.context.entries

-- the root has nothing above it
abbrev pub above_key : Mastered → List Key
above_key m = when (not (is_empty (pin_of m))) (parent (pin_of m))

abbrev pub pins_of : List Specific → List Key
pins_of references = map (λ k. key_of k.pin) references

abbrev pub reference_keys : ℕ × Agent → List Key
reference_keys a = pins_of a.1.subordinate

abbrev pub agreement_key : Agreement → List Key
agreement_key g = key_of g.context ∷ []

-- ---- the tables of contexts, agents and agreements

-- contexts by their places in file order, with their prefixes and with their entries
abbrev pub prefix_places : List Mastered → Numbers
prefix_places ms key place = some_and (λ m. same_key (pin_of m) key) (slice_get ms place)

abbrev pub entry_places : List Mastered → Numbers
entry_places ms key place = some_and (λ m. is_there m.context.entries key) (slice_get ms place)

-- agents, with the prefixes and the entries that they master, and with what they master something just below of
abbrev pub masters_in : List Mastered → Numbers
masters_in ms key agent = list_any (λ m. (m.master == agent) && same_key (pin_of m) key) ms

abbrev pub owners_in : List Mastered → Numbers
owners_in ms key agent = list_any (λ m. (m.master == agent) && is_there m.context.entries key) ms

abbrev pub masters_below_in : List Mastered → Numbers
masters_below_in ms key agent = list_any (λ p. (p.master == agent) && is_child key (pin_of p)) ms

-- with the pins of their subordinate references
abbrev pub referrers_in : List (ℕ × Agent) → Numbers
referrers_in agents key agent = list_any (λ a. (a.0 == agent) && refers_to a.1 key) agents

-- with the contexts that they consume
abbrev pub consumers_in : List Agreement → Numbers
consumers_in agreements key agent = list_any (is_consumer agent key) agreements

-- agents of the NSSRs of a context
abbrev pub members_of : Context → Numbers
members_of c key agent = in_nssr c key agent

abbrev pub member_rows : Nssr → List KeyRow
member_rows n = map (λ a. (key_of n.at, a)) n.agents

-- the contexts of an agent, and of agents from this place on
abbrev pub of_agent : ℕ → List Context → List Mastered
of_agent master contexts = map (λ c. record { master = master; context = c }) contexts

abbrev pub of_agents : ℕ → List Agent → List Mastered
of_agents place agents =
    flat_map (λ a. map (λ c. record { master = a.0; context = c }) a.1.contexts) (enumerate_from place agents)
