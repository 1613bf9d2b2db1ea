-- Octets that begin with a spelling of a value of a type.
use Rattle.std.specs.Prelude.{◌≡◌, ℕ, ◌+◌, ◌≤◌, ◌%◌, List, ◌∷◌, ◌++◌, length, map}
use Rattle.std.specs.declared.option.Option.TheVariants.{Some}
use Rattle.x5_model.specs.Values.{Pair}
use Rattle.x5_model.specs.Normal.{stored_pair}
use Rattle.x5_model_typed.specs.Rules.{pair_in}
use Rattle.x5_model_octets.specs.Headers.{IsLength, IsHeader, identifier_of}
use Rattle.x5_model_octets.specs.Elements.{deepest}
use Rattle.x5_model_typed.specs.Trees.{Tree, Trees, Lies, LieAll}
use Rattle.x5_model_typed.specs.Nodes.{Node, row}
use Rattle.x5_model_typed.specs.Named.{Named}
use Rattle.x5_model_typed.specs.Forms.{Component, Content}
use Rattle.x5_model_typed.specs.Layouts.{Surroundings, layout}
use Rattle.x5_model_typed.specs.Typed.{IsOf, Holds, AllOf, InOrder}

-- Length octets stand first that say a definite length; the others are the rest (X.690, 8.1.3).
pub record HasLength (n : ℕ) (octets rest : List ℕ) : Type 0 where
  pub front : List ℕ
  pub is_length : IsLength (Some n) front
  pub whole : octets ≡ front ++ rest

-- An element's header stands first, with that identifier octet and a definite length, and then its content; the others
-- are the rest (X.690, 8.1).
pub record Opens (first : ℕ) (content octets rest : List ℕ) : Type 0 where
  pub lengths : List ℕ
  pub is_header : IsHeader (identifier_of first (first % 32)) (Some (length content)) (first ∷ lengths)
  pub whole : octets ≡ (first ∷ lengths) ++ (content ++ rest)

-- The octets are an element, at that depth and place, that is the value of the type, whatever the surroundings.
pub record IsElement (form : Named) (n : Node) (octets : List ℕ) (depth at : ℕ) : Type 0 where
  pub tree : Tree
  pub lies : Lies depth at tree octets
  pub is_of : (w : Surroundings) → IsOf (layout w) (layout w form) tree n

-- The first octets spell the value of the type, wherever there is room for elements that lie so many levels deep in
-- it; the others are the rest.
pub record Spelled (levels : ℕ) (form : Named) (n : Node) (octets rest : List ℕ) : Type 0 where
  pub part : List ℕ
  pub whole : octets ≡ part ++ rest
  pub is_element : (depth at : ℕ) → depth + levels ≤ deepest → IsElement form n part depth at

-- They spell a value of the type of which that is said.
abbrev pub Reads : {X : Type 0} → ℕ → Named → (Node → X) → X → List ℕ → List ℕ → Type 0
Reads levels form says x octets rest = (n : Node) × Spelled levels form n octets rest × (x ≡ says n)

-- The octets are members that hold the value of the content.
pub record AreMembers (content : Content) (n : Node) (octets : List ℕ) (depth at : ℕ) : Type 0 where
  pub members : Trees
  pub lie : LieAll depth at members octets
  pub hold : (w : Surroundings) → Holds (layout w) content members n

abbrev pub SpelledIn : ℕ → Content → Node → List ℕ → Type 0
SpelledIn levels content n octets = (depth at : ℕ) → depth + levels ≤ deepest → AreMembers content n octets depth at

-- They are members of the one type, with those values.
pub record AreEach (form : Named) (ns : List Node) (octets : List ℕ) (depth at : ℕ) : Type 0 where
  pub members : Trees
  pub lie : LieAll depth at members octets
  pub all_of : (w : Surroundings) → AllOf (layout w) (layout w form) members (row ns)

abbrev pub SpelledEach : ℕ → Named → List Node → List ℕ → Type 0
SpelledEach levels form ns octets = (depth at : ℕ) → depth + levels ≤ deepest → AreEach form ns octets depth at

-- Of the values of the members that is said.
abbrev pub ReadEach : {X : Type 0} → ℕ → Named → (Node → X) → List X → List ℕ → Type 0
ReadEach levels form says xs octets = (ns : List Node) × SpelledEach levels form ns octets × (xs ≡ map says ns)

-- Wherever they stand first, they are members of which that is said, and those that follow are what they are.
abbrev pub BeginEach : {X : Type 0} → ℕ → Named → (Node → X) → List X → List ℕ → Type 0
BeginEach {X = X} levels form says xs front =
    (more : List X) (rest : List ℕ) → ReadEach levels form says more rest → ReadEach levels form says (xs ++ more) (front ++ rest)

-- The octets are such members, and behind them what is left.
abbrev pub Ahead : {X : Type 0} → ℕ → Named → (Node → X) → List ℕ → List X → List ℕ → Type 0
Ahead levels form says octets xs left = (front : List ℕ) × (octets ≡ front ++ left) × BeginEach levels form says xs front

-- They are members in the order of the components, with those values.
pub record AreInOrder (cs : List Component) (ns : List Node) (octets : List ℕ) (depth at : ℕ) : Type 0 where
  pub members : Trees
  pub lie : LieAll depth at members octets
  pub in_order : (w : Surroundings) → InOrder (layout w) cs members (row ns)

abbrev pub SpelledInOrder : ℕ → List Component → List Node → List ℕ → Type 0
SpelledInOrder levels cs ns octets = (depth at : ℕ) → depth + levels ≤ deepest → AreInOrder cs ns octets depth at

-- the pair that a node says, with its normal form
abbrev pub pair_of : Node → Pair
pair_of n = stored_pair (pair_in n)
