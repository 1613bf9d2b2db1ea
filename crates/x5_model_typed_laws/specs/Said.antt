-- Tables in which whatever is read fits: what a content says, and that the rule of the whole keeps what it makes of
-- that.
use Rattle.std.specs.Prelude.{◌≡◌, ℕ, Bool, true, false, not, nat_lt, List, [], ◌∷◌}
use Rattle.std.specs.List.{list_all}
use Rattle.std.specs.declared.option.Option.TheVariants.{Some}
use Rattle.x5_model_typed.specs.Trees.{Tree, Trees, Leaf, Branch, Bare, Row}
use Rattle.x5_model_typed.specs.Nodes.{Node, Nodes, Many}
use Rattle.x5_model_typed.specs.Named.{Named}
use Rattle.x5_model_typed.specs.Forms.{Presence, Code, Content, Primitive, Joined, JoinedBits, Explicit, Sequence, Set}
use Rattle.x5_model_typed.specs.Forms.{Members, Never, Alternative, Layout}
use Rattle.x5_model_typed.specs.Judged.{marked}
use Rattle.x5_model_typed.specs.Typed.{Spells}
use Rattle.x5_model_typed.specs.Layouts.{Surroundings, layout}
use Rattle.x5_model_typed_laws.specs.Fits.{Fits, FitsSequence, FitsSet, FitsEach}

abbrev pub is_octet : ℕ → Bool
is_octet o = nat_lt o 256

-- the contents of an element are octets
abbrev mutual
  pub HasOctets : Tree → Type 0
  HasOctets (Leaf at class tag content) = list_all is_octet content ≡ true
  HasOctets (Branch at class tag members) = HaveOctets members

  pub HaveOctets : Trees → Type 0
  HaveOctets Bare = Unit {0}
  HaveOctets (Row t ts) = HasOctets t × HaveOctets ts

-- what a content says, where its members fit
abbrev pub IsSaid : Layout → Content → Node → Type 0
IsSaid layout (Primitive leaf) m = (octets : List ℕ) × (list_all is_octet octets ≡ true) × (leaf.reads octets ≡ Some m)
IsSaid layout (Joined leaf) m = (octets : List ℕ) × (leaf.reads octets ≡ Some m)
IsSaid layout (JoinedBits leaf) m = (bits : List Bool) × (leaf.reads bits ≡ Some m)
IsSaid layout (Explicit form) m = Fits layout (layout form) m
IsSaid layout (Sequence cs) m = (ns : Nodes) × (m ≡ Many ns) × FitsSequence layout cs ns
IsSaid layout (Set cs) m = (ns : Nodes) × (m ≡ Many ns) × FitsSet layout cs ns
IsSaid layout (Members form) m = (ns : Nodes) × (m ≡ Many ns) × FitsEach layout form ns
IsSaid layout Never m = ⊥

abbrev pub Closes : Layout → List Alternative → Alternative → Type 0
Closes layout types a = (m n : Node) → IsSaid layout a.content m → a.settles m ≡ Some n → Fits layout types (marked a n)

abbrev pub AllClose : Layout → List Alternative → List Alternative → Type 0
AllClose layout types [] = Unit {0}
AllClose layout types (a ∷ others) = Closes layout types a × AllClose layout types others

-- no component of a SET is a code
abbrev pub is_code : Presence → Bool
is_code (Code names) = true
is_code presence = false

abbrev pub is_uncoded : Content → Bool
is_uncoded (Set cs) = list_all (λ c. not (is_code c.presence)) cs
is_uncoded content = true

pub record IsClosed (layout : Layout) : Type 0 where
  pub uncoded : (form : Named) → list_all (λ a. is_uncoded a.content) (layout form) ≡ true
  pub closes : (form : Named) → AllClose layout (layout form) (layout form)

-- In such a table whatever octets spell fits.
abbrev pub SpelledFits : Type 0
SpelledFits = (layout : Layout) (form : Named) (octets : List ℕ) (n : Node) → IsClosed layout
    → list_all is_octet octets ≡ true → Spells layout form octets n → Fits layout (layout form) n

-- The table of messages is such a table: so whatever octets spell of a message's type fits.
abbrev pub MessagesAreClosed : Type 0
MessagesAreClosed = (w : Surroundings) → IsClosed (layout w)

abbrev pub MessagesSpelledFit : Type 0
MessagesSpelledFit = (w : Surroundings) (form : Named) (octets : List ℕ) (n : Node) → list_all is_octet octets ≡ true
    → Spells (layout w) form octets n → Fits (layout w) (layout w form) n
