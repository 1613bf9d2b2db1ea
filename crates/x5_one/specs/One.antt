-- The one tree of a world as it is kept: all entries, and the naming contexts with the agents that master them (X.501,
-- section 7: the directory information tree; section 22: naming contexts). Who masters a context is told as the source of an
-- answer, which is this project's own.
use Rattle.std.specs.Prelude.{List, map}
use Rattle.std.specs.List.{find, flat_map}
use Rattle.std.specs.declared.option.Option.{Option}
use Rattle.std.specs.declared.option.Option.TheVariants.{None}
use Rattle.x5_model.specs.Words.{in_option}
use Rattle.x5_model.specs.Keys.{Key, same_key}
use Rattle.x5_model.specs.Values.{Text, Name, key_of}
use Rattle.x5_model.specs.Entries.{Named}
use Rattle.x5_model_tree.specs.World.{Context, Agent, World}
use Rattle.x5_model_tree.specs.Tree.{Tree, longest}

-- a naming context: its prefix as it is spelled, and the name of the agent that masters it
pub record Held : Type 0 where
  pub prefix : Name
  pub master : Text

-- what contracts see: the entries in the order of their keys, and the contexts in the order of the world's file
pub record One : Type 0 where
  pub entries : List Named
  pub contexts : List Held

abbrev pub pin_in : Held → Key
pin_in h = key_of h.prefix

-- the tree itself: its pins are the prefixes of its contexts
abbrev pub tree_in : One → Tree
tree_in o = record { entries = o.entries; pins = map pin_in o.contexts }

-- the contexts of a world, agent by agent
abbrev pub held_by : Text → List Context → List Held
held_by master contexts = map (λ c. record { prefix = c.prefix; master = master }) contexts

abbrev pub contexts_by : Agent → List Held
contexts_by a = held_by a.name a.contexts

abbrev pub contexts_of : World → List Held
contexts_of w = flat_map contexts_by w.agents

-- the context that a name belongs to: that of its longest pin
abbrev pub context_with : List Held → Key → Option Held
context_with contexts pin = find (λ h. same_key (pin_in h) pin) contexts

abbrev pub context_at : List Held → Key → Option Held
context_at contexts key = in_option None (context_with contexts) (longest (map pin_in contexts) key)

-- the entries of contexts, and of agents
abbrev pub entries_by : List Context → List Named
entries_by contexts = flat_map (λ c. c.entries) contexts

abbrev pub entries_of : List Agent → List Named
entries_of agents = flat_map (λ a. entries_by a.contexts) agents
