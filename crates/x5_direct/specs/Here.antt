-- Octets that begin with a spelling of a value of a type in some surroundings: times and agents are those of a world.
use Rattle.std.specs.Prelude.{◌≡◌, ℕ, ◌+◌, ◌≤◌, List, ◌++◌, map}
use Rattle.x5_model_octets.specs.Elements.{deepest}
use Rattle.x5_model_typed.specs.Trees.{Tree, Trees, Lies, LieAll}
use Rattle.x5_model_typed.specs.Nodes.{Node, row}
use Rattle.x5_model_typed.specs.Named.{Named}
use Rattle.x5_model_typed.specs.Forms.{Component, Content}
use Rattle.x5_model_typed.specs.Layouts.{Surroundings, layout}
use Rattle.x5_model_typed.specs.Typed.{IsOf, Holds, AllOf, InOrder}

-- The octets are an element, at that depth and place, that is the value of the type.
pub record ElementHere (w : Surroundings) (form : Named) (n : Node) (octets : List ℕ) (depth at : ℕ) : Type 0 where
  pub tree : Tree
  pub lies : Lies depth at tree octets
  pub is_of : IsOf (layout w) (layout w form) tree n

-- The first octets spell the value of the type, wherever there is room for elements that lie so many levels deep in
-- it; the others are the rest.
pub record SpelledHere (w : Surroundings) (levels : ℕ) (form : Named) (n : Node) (octets rest : List ℕ) : Type 0 where
  pub part : List ℕ
  pub whole : octets ≡ part ++ rest
  pub is_element : (depth at : ℕ) → depth + levels ≤ deepest → ElementHere w form n part depth at

-- They spell a value of the type of which that is said.
abbrev pub ReadsHere : {X : Type 0} → Surroundings → ℕ → Named → (Node → X) → X → List ℕ → List ℕ → Type 0
ReadsHere w levels form says x octets rest = (n : Node) × SpelledHere w levels form n octets rest × (x ≡ says n)

-- The octets are members that hold the value of the content.
pub record MembersHere (w : Surroundings) (content : Content) (n : Node) (octets : List ℕ) (depth at : ℕ) : Type 0 where
  pub members : Trees
  pub lie : LieAll depth at members octets
  pub hold : Holds (layout w) content members n

abbrev pub ContentHere : Surroundings → ℕ → Content → Node → List ℕ → Type 0
ContentHere w levels content n octets =
    (depth at : ℕ) → depth + levels ≤ deepest → MembersHere w content n octets depth at

-- They are members of the one type, with those values.
pub record AllHere (w : Surroundings) (form : Named) (ns : List Node) (octets : List ℕ) (depth at : ℕ) : Type 0 where
  pub members : Trees
  pub lie : LieAll depth at members octets
  pub all_of : AllOf (layout w) (layout w form) members (row ns)

abbrev pub EachHere : Surroundings → ℕ → Named → List Node → List ℕ → Type 0
EachHere w levels form ns octets = (depth at : ℕ) → depth + levels ≤ deepest → AllHere w form ns octets depth at

-- Of the values of the members that is said.
abbrev pub ReadEachHere : {X : Type 0} → Surroundings → ℕ → Named → (Node → X) → List X → List ℕ → Type 0
ReadEachHere w levels form says xs octets = (ns : List Node) × EachHere w levels form ns octets × (xs ≡ map says ns)

-- They are members in the order of the components, with those values.
pub record InOrderHere (w : Surroundings) (cs : List Component) (ns : List Node) (octets : List ℕ) (depth at : ℕ)
    : Type 0 where
  pub members : Trees
  pub lie : LieAll depth at members octets
  pub in_order : InOrder (layout w) cs members (row ns)

abbrev pub OrderHere : Surroundings → ℕ → List Component → List Node → List ℕ → Type 0
OrderHere w levels cs ns octets =
    (depth at : ℕ) → depth + levels ≤ deepest → InOrderHere w cs ns octets depth at
