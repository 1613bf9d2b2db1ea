-- Octets that are the components of a SET, each with a context tag of its own, in the order of the tags.
use Rattle.std.specs.Prelude.{◌≡◌, ℕ, ◌+◌, ◌≤◌, ◌⊎◌, Bool, true, false, List, [], ◌∷◌}
use Rattle.x5_model_octets.specs.Elements.{deepest}
use Rattle.x5_model_typed.specs.Trees.{Trees, Bare, Row, LieAll, class_of, tag_of}
use Rattle.x5_model_typed.specs.Nodes.{Node, row}
use Rattle.x5_model_typed.specs.Named.{Named}
use Rattle.x5_model_typed.specs.Forms.{Component}
use Rattle.x5_model_typed.specs.Layouts.{Surroundings, layout}
use Rattle.x5_model_typed.specs.Typed.{InAnyOrder}
use Rattle.x5_direct.specs.Spelled.{Opens, Reads, SpelledInOrder}

-- Each member has a context tag, none a lower one than that.
abbrev pub AreFrom : ℕ → Trees → Type 0
AreFrom low Bare = Unit {0}
AreFrom low (Row t ts) = (class_of t ≡ 2) × (low ≤ tag_of t) × AreFrom low ts

-- The octets are members that are the components with those values, in any order.
pub record AreComponents (low : ℕ) (cs : List Component) (ns : List Node) (octets : List ℕ)
    (depth at : ℕ) : Type 0 where
  pub members : Trees
  pub lie : LieAll depth at members octets
  pub from : AreFrom low members
  pub in_any_order : (w : Surroundings) → InAnyOrder (layout w) cs members (row ns)

abbrev pub SpelledComponents : ℕ → ℕ → List Component → List Node → List ℕ → Type 0
SpelledComponents levels low cs ns octets =
    (depth at : ℕ) → depth + levels ≤ deepest → AreComponents low cs ns octets depth at

-- In an element of the tag stands a value of the type of which that is said, and nothing else.
abbrev pub ReadsTagged : {X : Type 0} → ℕ → ℕ → Named → (Node → X) → X → List ℕ → List ℕ → Type 0
ReadsTagged levels k form says x octets rest =
    (content : List ℕ) × Opens (160 + k) content octets rest × Reads levels form says x content []

-- Or there is none, and that is said of the value that stands for it.
abbrev pub MayReadTagged : {X : Type 0} → ℕ → ℕ → Named → (Node → X) → Node → X → List ℕ → List ℕ → Type 0
MayReadTagged levels k form says d x octets rest =
    ReadsTagged levels k form says x octets rest ⊎ ((x ≡ says d) × (octets ≡ rest))

-- The octets are the last component of a SEQUENCE, of which that is said, or nothing if it may be missing.
abbrev pub ReadsLast : {X : Type 0} → ℕ → Component → (Node → X) → X → List ℕ → Type 0
ReadsLast levels c says x octets = (n : Node) × SpelledInOrder levels (c ∷ []) (n ∷ []) octets × (x ≡ says n)

-- Wherever the octets are the content of an element of that identifier octet, it is a value of which that is said.
abbrev pub ReadsInside : {X : Type 0} → ℕ → Named → ℕ → (Node → X) → X → List ℕ → Type 0
ReadsInside levels form first says x content =
    (octets rest : List ℕ) → Opens first content octets rest → Reads levels form says x octets rest

-- An element stands first that may be missing.
abbrev pub MayOpen : Bool → ℕ → List ℕ → List ℕ → List ℕ → Type 0
MayOpen true first content octets rest = Opens first content octets rest
MayOpen false first content octets rest = octets ≡ rest

-- What is said of all of its content, or of the value that stands for it where it is missing.
abbrev pub MayRead : {X : Type 0} → Bool → ℕ → Named → (Node → X) → Node → X → List ℕ → Type 0
MayRead true levels form says d x content = Reads levels form says x content []
MayRead false levels form says d x content = x ≡ says d
