-- Trace information (X.518, section 10.6): its items with the names that they are about.
use Rattle.std.specs.Prelude.{Bool, ◌&&◌, List, [], ◌∷◌}
use Rattle.x5_model.specs.Keys.{same_key}
use Rattle.x5_model.specs.Normal.{stored}
use Rattle.x5_model.specs.Values.{Name, key_of}
use Rattle.x5_model_typed.specs.Nodes.{Node, parts, same}
use Rattle.x5_model_typed.specs.Rules.{name_in}
use Rattle.x5_rules.specs.declared.trace.Item.{Item}
use Rattle.x5_types.specs.NodeView.{node_view}

-- the name that an item is about
abbrev pub target_in : Node → Name
target_in item = by (parts item)
  where
    by : List Node → Name
    by (agent ∷ target ∷ progress ∷ wide ∷ []) = stored (name_in target)
    by other = []

abbrev pub item_parts : Item → List Node
item_parts i = node_view i.agent.now ∷ node_view i.target.now ∷ node_view i.progress.now ∷ node_view i.wide.now ∷ []

-- items are the same where the agent, the name's key, the progress and the mark are
abbrev pub are_same : Item → Name → Item → Name → Bool
are_same i t j u =
    same (node_view i.agent.now) (node_view j.agent.now) && same_key (key_of t) (key_of u)
    && same (node_view i.progress.now) (node_view j.progress.now)
    && same (node_view i.wide.now) (node_view j.wide.now)

-- Three and fewer, or five and more.
pub data IsNotFour : List Node → Type 0 where
  none : IsNotFour []
  one : {a : Node} → IsNotFour (a ∷ [])
  two : {a b : Node} → IsNotFour (a ∷ b ∷ [])
  three : {a b c : Node} → IsNotFour (a ∷ b ∷ c ∷ [])
  five : {a b c d e : Node} {others : List Node} → IsNotFour (a ∷ b ∷ c ∷ d ∷ e ∷ others)
