-- Which elements, and which octets, are values of a type.
use Rattle.std.specs.Prelude.{◌≡◌, ℕ, ◌%◌, ℤ, Bool, true, false, List, [], ◌∷◌, ◌++◌, length}
use Rattle.std.specs.declared.option.Option.{Option}
use Rattle.std.specs.declared.option.Option.TheVariants.{Some}
use Rattle.x5_model_typed.specs.Trees.{Tree, Trees, Leaf, Branch, Bare, Row, Lies, class_of, tag_of}
use Rattle.x5_model_typed.specs.Nodes.{Node, Nodes, Number, Many, Nil, More}
use Rattle.x5_model_typed.specs.Named.{Named}
use Rattle.x5_model_typed.specs.Forms.{Presence, Required, Default, Code, Component, Content, Primitive, Joined}
use Rattle.x5_model_typed.specs.Forms.{JoinedBits, Explicit, Sequence, Set, Members, Never, Alternative, Layout, by_tag}
use Rattle.x5_model_typed.specs.Forms.{plain, alternatives, is_component, universal}
use Rattle.x5_model_typed.specs.Judged.{leaf_node, bits_of_content, marked}

-- A string's octets: its content, or those of its segments (X.690, 8.7.3).
abbrev mutual
  pub OctetsOf : Tree → List ℕ → Type 0
  OctetsOf (Leaf at class tag content) octets = octets ≡ content
  OctetsOf (Branch at class tag members) octets = SegmentsOf members octets

  pub SegmentsOf : Trees → List ℕ → Type 0
  SegmentsOf Bare octets = octets ≡ []
  SegmentsOf (Row t ts) octets =
      (class_of t ≡ 0) × (tag_of t ≡ 4) × (first : List ℕ) × (rest : List ℕ) × OctetsOf t first × SegmentsOf ts rest
      × (octets ≡ first ++ rest)

-- A bit string's bits; each segment but the last is whole octets (8.6.4).
abbrev mutual
  pub BitsOf : Tree → List Bool → Type 0
  BitsOf (Leaf at class tag content) bits = bits_of_content content ≡ Some bits
  BitsOf (Branch at class tag members) bits = BitSegmentsOf members bits

  pub BitSegmentsOf : Trees → List Bool → Type 0
  BitSegmentsOf Bare bits = bits ≡ []
  BitSegmentsOf (Row t Bare) bits = (class_of t ≡ 0) × (tag_of t ≡ 3) × BitsOf t bits
  BitSegmentsOf (Row t (Row u ts)) bits =
      (class_of t ≡ 0) × (tag_of t ≡ 3) × (first : List Bool) × (rest : List Bool) × BitsOf t first
      × (length first % 8 ≡ 0) × BitSegmentsOf (Row u ts) rest × (bits ≡ first ++ rest)

-- One member, wherever it stands among others.
pub data Among (t : Tree) : Trees → Trees → Type 0 where
  here : {ts : Trees} → Among t (Row t ts) ts
  later : {u : Tree} {ts rest : Trees} → Among t ts rest → Among t (Row u ts) (Row u rest)

-- The first member doesn't have a tag of the component's.
abbrev pub IsPassed : Layout → Component → Trees → Type 0
IsPassed layout c Bare = Unit {0}
IsPassed layout c (Row t ts) = is_component layout (class_of t) (tag_of t) c ≡ false

-- No member has.
abbrev pub IsMissing : Layout → Component → Trees → Type 0
IsMissing layout c Bare = Unit {0}
IsMissing layout c (Row t ts) = (is_component layout (class_of t) (tag_of t) c ≡ false) × IsMissing layout c ts

-- The components behind one that has this value: a code names one more.
pub data Goes (cs : List Component) (n : Node) : Presence → List Component → Type 0 where
  required : Goes cs n Required cs
  default : {d : Node} → Goes cs n (Default d) cs
  named : {names : ℤ → Option Named} (k : ℤ) (form : Named) → n ≡ Number k → names k ≡ Some form →
      Goes cs n (Code names) (plain form ∷ [])

mutual
  -- The element is that value of one of the types.
  pub data IsOf (layout : Layout) : List Alternative → Tree → Node → Type 0 where
    primitive : {types : List Alternative} {at class tag : ℕ} {octets : List ℕ} (a : Alternative) (m n : Node)
        → by_tag class tag types ≡ Some a → leaf_node a.content octets ≡ Some m → a.settles m ≡ Some n
        → IsOf layout types (Leaf at class tag octets) (marked a n)
    constructed : {types : List Alternative} {at class tag : ℕ} {members : Trees} (a : Alternative) (m n : Node)
        → by_tag class tag types ≡ Some a → Holds layout a.content members m → a.settles m ≡ Some n
        → IsOf layout types (Branch at class tag members) (marked a n)

  -- The members are that value of the content.
  pub data Holds (layout : Layout) : Content → Trees → Node → Type 0 where
    one : {form : Named} {t : Tree} {n : Node} → IsOf layout (layout form) t n →
        Holds layout (Explicit form) (Row t Bare) n
    in_order : {cs : List Component} {ts : Trees} {ns : Nodes} → InOrder layout cs ts ns →
        Holds layout (Sequence cs) ts (Many ns)
    in_any_order : {cs : List Component} {ts : Trees} {ns : Nodes} → InAnyOrder layout cs ts ns →
        Holds layout (Set cs) ts (Many ns)
    each : {form : Named} {ts : Trees} {ns : Nodes} → AllOf layout (layout form) ts ns →
        Holds layout (Members form) ts (Many ns)
    string : {ts : Trees} {n : Node} (octets : List ℕ) (leaf : Rattle.x5_model_typed.specs.Forms.Leaf (List ℕ)) →
        SegmentsOf ts octets → leaf.reads octets ≡ Some n → Holds layout (Joined leaf) ts n
    bit_string : {ts : Trees} {n : Node} (bits : List Bool)
        (leaf : Rattle.x5_model_typed.specs.Forms.Leaf (List Bool)) → BitSegmentsOf ts bits → leaf.reads bits ≡ Some n →
        Holds layout (JoinedBits leaf) ts n

  pub data AllOf (layout : Layout) : List Alternative → Trees → Nodes → Type 0 where
    nil : {types : List Alternative} → AllOf layout types Bare Nil
    more : {types : List Alternative} {t : Tree} {ts : Trees} {n : Node} {ns : Nodes} → IsOf layout types t n →
        AllOf layout types ts ns → AllOf layout types (Row t ts) (More n ns)

  -- A SEQUENCE's components, in the order of the type.
  pub data InOrder (layout : Layout) : List Component → Trees → Nodes → Type 0 where
    over : InOrder layout [] Bare Nil
    next : {c : Component} {cs rest : List Component} {t : Tree} {ts : Trees} {n : Node} {ns : Nodes}
        → is_component layout (class_of t) (tag_of t) c ≡ true → IsOf layout (alternatives layout c) t n →
        Goes cs n c.presence rest → InOrder layout rest ts ns
        → InOrder layout (c ∷ cs) (Row t ts) (More n ns)
    passed : {c : Component} {cs : List Component} {ts : Trees} {ns : Nodes} (d : Node)
        → c.presence ≡ Default d → IsPassed layout c ts → InOrder layout cs ts ns
        → InOrder layout (c ∷ cs) ts (More d ns)

  -- A SET's components, in any order, each once: behind a component's element no other has a tag of it.
  pub data InAnyOrder (layout : Layout) : List Component → Trees → Nodes → Type 0 where
    complete : InAnyOrder layout [] Bare Nil
    given : {c : Component} {cs : List Component} {t : Tree} {ts rest : Trees} {n : Node} {ns : Nodes}
        → Among t ts rest → is_component layout (class_of t) (tag_of t) c ≡ true → IsMissing layout c rest →
        IsOf layout (alternatives layout c) t n → InAnyOrder layout cs rest ns
        → InAnyOrder layout (c ∷ cs) ts (More n ns)
    missing : {c : Component} {cs : List Component} {ts : Trees} {ns : Nodes} (d : Node)
        → c.presence ≡ Default d → IsMissing layout c ts → InAnyOrder layout cs ts ns
        → InAnyOrder layout (c ∷ cs) ts (More d ns)

-- The octets spell a value of the type.
pub record Spells (layout : Layout) (form : Named) (octets : List ℕ) (n : Node) : Type 0 where
  pub tree : Tree
  pub lies : Lies 1 0 tree octets
  pub is_of : IsOf layout (layout form) tree n
