-- What octets in their usual spelling hold of a request: a message with its code, and an argument whose components
-- stand in the order of their tags.
use Rattle.std.specs.Prelude.{◌≡◌, ℕ, ◌+◌, ◌≤◌, ◌<◌, List, [], ◌∷◌}
use Rattle.x5_model_octets.specs.Elements.{deepest}
use Rattle.x5_model_typed.specs.Forms.{Component}
use Rattle.x5_model_typed.specs.Layouts.{Surroundings, layout}
use Rattle.x5_model_typed.specs.Named as named
use Rattle.x5_model_typed.specs.Nodes.{Node, row, whole}
use Rattle.x5_model_typed.specs.Trees.{Trees, Bare, Row, LieAll, class_of, tag_of}
use Rattle.x5_model_typed.specs.Typed.{InAnyOrder}
use Rattle.x5_direct.specs.Spelled.{Opens, Spelled}

-- ---- components of a SET in the order of their context tags (X.690, 8.12)

-- Each has a context tag of that number at least.
abbrev pub AreFrom : ℕ → Trees → Type 0
AreFrom low Bare = Unit {0}
AreFrom low (Row t ts) = (class_of t ≡ 2) × (low ≤ tag_of t) × AreFrom low ts

-- The octets are members in the order of the components and of tags from that number on, with those values.
pub record AreInSet (low : ℕ) (cs : List Component) (ns : List Node) (octets : List ℕ) (depth at : ℕ) : Type 0 where
  pub members : Trees
  pub lie : LieAll depth at members octets
  pub any_order : (w : Surroundings) → InAnyOrder (layout w) cs members (row ns)
  pub are_from : AreFrom low members

abbrev pub SpelledInSet : ℕ → ℕ → List Component → List Node → List ℕ → Type 0
SpelledInSet levels low cs ns octets = (depth at : ℕ) → depth + levels ≤ deepest → AreInSet low cs ns octets depth at

-- The octets begin with the component of the tag k, or it's missing and has its default: whatever components of higher
-- tags the others are, all together are it and them.
abbrev pub IsNext : ℕ → ℕ → Component → Node → List ℕ → List ℕ → Type 0
IsNext levels k c n octets rest =
    (low : ℕ) (cs : List Component) (ns : List Node) → k < low → SpelledInSet levels low cs ns rest
    → SpelledInSet levels k (c ∷ cs) (n ∷ ns) octets

-- It has a value of which that is said.
abbrev pub ReadsNext : {X : Type 0} → ℕ → ℕ → Component → (Node → X) → X → List ℕ → List ℕ → Type 0
ReadsNext levels k c says x octets rest = (n : Node) × IsNext levels k c n octets rest × (x ≡ says n)

-- ---- messages of an operation (X.519, section 7)

abbrev pub code_of : named.Operation → ℕ
code_of named.Read = 1
code_of named.Compare = 2
code_of named.ListBelow = 4
code_of named.Search = 5
code_of named.AddEntry = 6
code_of named.RemoveEntry = 7
code_of named.ModifyEntry = 8
code_of named.ModifyDn = 9

-- All of the octets are an element with the context tag 1, that holds an id and the operation's code; behind them stands
-- the rest.
pub record Invokes (i k : ℕ) (o : named.Operation) (octets rest : List ℕ) : Type 0 where
  pub content : List ℕ
  pub after : List ℕ
  pub opens : Opens 161 content octets []
  pub id : Spelled 0 (named.NumberBelow 0 4294967295) (whole i) content after
  pub code : Spelled 0 named.AnyNumber (whole k) after rest
  pub code_is : k ≡ code_of o
