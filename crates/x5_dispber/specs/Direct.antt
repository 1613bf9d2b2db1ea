-- What is found of messages of shadowing that are read straight from octets.
use Rattle.std.specs.Prelude.{◌≡◌, ℕ, Bool, true, false, List, [], ◌∷◌, if◌then◌else◌}
use Rattle.std.specs.declared.option.Option.TheVariants.{Some}
use Rattle.x5_direct.specs.Spelled.{Opens}
use Rattle.x5_model_typed.specs.Forms.{Leaf}
use Rattle.x5_model_typed.specs.Layouts.{Surroundings}
use Rattle.x5_model_typed.specs.Leaves.{is_agent_name, text_where}
use Rattle.x5_model_typed.specs.Nodes.{Node}

-- A primitive element stands first, with that identifier octet, and its content says so; the others are the rest.
pub record LeafAt (leaf : Leaf (List ℕ)) (first : ℕ) (n : Node) (octets rest : List ℕ) : Type 0 where
  pub content : List ℕ
  pub opens : Opens first content octets rest
  pub reads : leaf.reads content ≡ Some n

-- the name of an agent of the world
abbrev pub world_agent : Surroundings → Leaf (List ℕ)
world_agent w = text_where (λ t. if is_agent_name t then w.is_agent t else false)

-- The mark that an agent has a copy, a BOOLEAN that is true, or nothing where it's a master.
abbrev pub IsMark : Bool → List ℕ → Type 0
IsMark true octets = octets ≡ 1 ∷ 1 ∷ 255 ∷ []
IsMark false octets = octets ≡ []
