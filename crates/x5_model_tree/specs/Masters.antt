-- Who masters, consumes and holds what in a world (X.501: knowledge; X.525: shadowing agreements), by keys.
use Rattle.std.specs.Prelude.{ℕ, Bool, ◌&&◌, ◌||◌, ◌==◌, if◌then◌else◌, List, [], ◌∷◌, map, slice_get}
use Rattle.std.specs.List.{list_any, flat_map, enumerate_from}
use Rattle.std.specs.declared.option.Option.{Option}
use Rattle.std.specs.declared.option.Option.TheVariants.{None, Some}
use Rattle.std.specs.Option.{is_none}
use Rattle.x5_model.specs.Words.{in_option, has}
use Rattle.x5_model.specs.Keys.{Key, same_key}
use Rattle.x5_model.specs.Values.{key_of}
use Rattle.x5_model.specs.Entries.{Named}
use Rattle.x5_model_tree.specs.World.{Context, Agent, Agreement, World}
use Rattle.x5_model_tree.specs.Tree.{Tree, tree_of}

-- a naming context with the agent that masters it
pub record Mastered : Type 0 where
  pub master : ℕ
  pub context : Context

abbrev pub pin_of : Mastered → Key
pin_of m = key_of m.context.prefix

-- the agents with their places
abbrev pub numbered : World → List (ℕ × Agent)
numbered w = enumerate_from 0 w.agents

abbrev pub agent_at : World → ℕ → Option Agent
agent_at w a = slice_get w.agents a

-- all contexts, in file order
abbrev pub mastered : World → List Mastered
mastered w = flat_map (λ a. map (λ c. record { master = a.0; context = c }) a.1.contexts) (numbered w)

abbrev pub pins : World → List Key
pins w = map pin_of (mastered w)

-- the master of a pin; of two, the first in file order
abbrev pub master_among : List Mastered → Key → Option ℕ
master_among [] pin = None
master_among (m ∷ ms) pin = if same_key (pin_of m) pin then Some m.master else master_among ms pin

abbrev pub master_of : World → Key → Option ℕ
master_of w pin = master_among (mastered w) pin

abbrev pub masters : World → ℕ → Key → Bool
masters w a pin = list_any (λ m. (m.master == a) && same_key (pin_of m) pin) (mastered w)

-- by some agreement
abbrev pub is_consumer : ℕ → Key → Agreement → Bool
is_consumer a pin g = (g.consumer == a) && same_key (key_of g.context) pin

abbrev pub consumes : World → ℕ → Key → Bool
consumes w a pin = list_any (is_consumer a pin) w.agreements

-- mastered or consumed
abbrev pub holds : World → ℕ → Key → Bool
holds w a pin = masters w a pin || consumes w a pin

-- where several agreements give an agent one context, it has one copy, from the supplier of the first
abbrev pub supplier_among : List Agreement → ℕ → Key → Option ℕ
supplier_among [] a pin = None
supplier_among (g ∷ gs) a pin = if is_consumer a pin g then Some g.supplier else supplier_among gs a pin

abbrev pub supplier_of : World → ℕ → Key → Option ℕ
supplier_of w a pin = supplier_among w.agreements a pin

abbrev pub is_first_level : Agent → Bool
is_first_level a = is_none a.superior

abbrev pub superior_of : World → ℕ → Option ℕ
superior_of w a = in_option None (λ agent. agent.superior) (agent_at w a)

-- The contexts that an agent holds as their master: where it is given one prefix twice, it holds the first in file order
-- alone.
abbrev pub held_contexts : List Key → List Context → List Context
held_contexts before [] = []
held_contexts before (c ∷ cs) =
    if has same_key before (key_of c.prefix) then held_contexts before cs
    else (c ∷ held_contexts (key_of c.prefix ∷ before) cs)

abbrev pub all_entries : World → List Named
all_entries w = flat_map (λ m. m.context.entries) (mastered w)

-- the whole tree: all master entries, with the prefixes as pins
abbrev pub whole : World → Tree
whole w = tree_of (all_entries w) (pins w)
