-- What holds of every table of types: how spellings lie to each other, and what reading by type finds.
use Rattle.std.specs.Prelude.{◌≡◌, ℕ, List, [], ◌++◌}
use Rattle.std.specs.declared.result.Result.TheVariants.{Ok}
use Rattle.x5_model_typed.specs.Trees.{Tree, Lies}
use Rattle.x5_model_typed.specs.Nodes.{Node}
use Rattle.x5_model_typed.specs.Named.{Named}
use Rattle.x5_model_typed.specs.Forms.{Alternative, Layout}
use Rattle.x5_model_typed.specs.Judged.{judged}
use Rattle.x5_model_typed.specs.Typed.{IsOf, Spells}

-- Octets are one element with its places at most.
abbrev pub OneTree : Type 0
OneTree = (t u : Tree) (octets : List ℕ) → Lies 1 0 t octets → Lies 1 0 u octets → t ≡ u

-- No spelling, of whatever type, begins another.
abbrev pub NoSpellingBegins : Type 0
NoSpellingBegins = (layout : Layout) (first second : Named) (octets more : List ℕ) (m n : Node) →
    Spells layout first octets m → Spells layout second (octets ++ more) n → more ≡ []

-- Octets spell one value of a type at most.
abbrev pub OneValue : Type 0
OneValue = (layout : Layout) (form : Named) (octets : List ℕ) (m n : Node) → Spells layout form octets m →
    Spells layout form octets n → m ≡ n

-- What an element is judged to be as a value of a type, it is.
abbrev pub JudgedIs : Type 0
JudgedIs = (layout : Layout) (types : List Alternative) (t : Tree) (n : Node) → judged layout types t ≡ Ok n →
    IsOf layout types t n

-- So octets that lie there as an element and are judged a value spell it.
abbrev pub JudgedIsSpelled : Type 0
JudgedIsSpelled = (layout : Layout) (form : Named) (octets : List ℕ) (t : Tree) (n : Node) → Lies 1 0 t octets →
    judged layout (layout form) t ≡ Ok n → Spells layout form octets n
