-- Elements of the Basic Encoding Rules, and the octets that spell them (X.690, clause 8).
use Rattle.std.specs.Prelude.{◌≡◌, ◌≢◌, ℕ, ◌+◌, ◌/◌, ◌%◌, ◌^◌, ◌<◌, ◌≤◌, ◌==◌, Bool, true, false, if◌then◌else◌, nat_lt}
use Rattle.std.specs.Prelude.{List, [], ◌∷◌, ◌++◌, length}
use Rattle.std.specs.declared.option.Option.TheVariants.{None, Some}
use Rattle.std.specs.Int.{to_be_bytes, w64}
use Rattle.x5_model_octets.specs.Headers.{Identifier, IsHeader, leading}

-- An element: its class and tag number, and octets as its content, or elements in a row.
mutual
  pub data Element : Type 0 where
    Primitive : ℕ → ℕ → List ℕ → Element
    Constructed : ℕ → ℕ → Elements → Element

  pub data Elements : Type 0 where
    Nil : Elements
    More : Element → Elements → Elements

abbrev pub identifier : Bool → ℕ → ℕ → Identifier
identifier constructed class tag = record { class = class; constructed = constructed; tag = tag }

-- Elements lie one in another at most 64 deep; the outermost has depth 1.
abbrev pub deepest : ℕ
deepest = 64

-- The octets spell a primitive element: its header with a definite length and its content. The two
-- octets 00 00 are end-of-contents octets and no element (8.1.5).
pub record SpellsPrimitive (depth class tag : ℕ) (content octets : List ℕ) : Type 0 where
  pub deep : depth ≤ deepest
  pub header : List ℕ
  pub is_header : IsHeader (identifier false class tag) (Some (length content)) header
  pub whole : octets ≡ header ++ content
  pub no_end : octets ≢ 0 ∷ 0 ∷ []

-- The octets are a constructed element's header and content: with a definite length, or with the
-- indefinite form and end-of-contents octets (8.1.3.2, 8.1.4, 8.1.5).
pub data Encloses (class tag : ℕ) (content octets : List ℕ) : Type 0 where
  definite : (header : List ℕ) → IsHeader (identifier true class tag) (Some (length content)) header → octets ≡ header
      ++ content → Encloses class tag content octets
  indefinite : (header : List ℕ) → IsHeader (identifier true class tag) None header → octets ≡ header
      ++ (content ++ (0 ∷ 0 ∷ [])) → Encloses class tag content octets

-- Spells depth e octets: the octets are a spelling of the element, which lies at that depth.
-- SpellsAll depth es octets: they are spellings of the elements, one after the other.
abbrev mutual
  pub Spells : ℕ → Element → List ℕ → Type 0
  Spells depth (Primitive class tag content) octets = SpellsPrimitive depth class tag content octets
  Spells depth (Constructed class tag members) octets =
      (depth ≤ deepest) × (content : List ℕ) × SpellsAll (depth + 1) members content × Encloses class tag content octets

  pub SpellsAll : ℕ → Elements → List ℕ → Type 0
  SpellsAll depth Nil octets = octets ≡ []
  SpellsAll depth (More e es) octets =
      (first : List ℕ) × (rest : List ℕ) × Spells depth e first × SpellsAll depth es rest × (octets ≡ first ++ rest)

-- The groups of seven bits of a tag number below 2 ^ 35, none of them needless (8.1.2.4.2).
abbrev pub group_from : ℕ → ℕ → List ℕ
group_from tag power = if nat_lt tag power then [] else (128 + tag / power % 128) ∷ []

abbrev pub groups : ℕ → List ℕ
groups tag = group_from tag (2 ^ 28) ++ (group_from tag (2 ^ 21)
    ++ (group_from tag (2 ^ 14) ++ (group_from tag (2 ^ 7) ++ (tag % 128 ∷ []))))

abbrev pub identifier_octets : Identifier → List ℕ
identifier_octets i = if nat_lt i.tag 31 then leading i i.tag ∷ [] else leading i 31 ∷ groups i.tag

-- Octets without the zeros before the first that isn't zero.
abbrev pub without_zeros : List ℕ → List ℕ
without_zeros [] = []
without_zeros (d ∷ digits) = if d == 0 then without_zeros digits else d ∷ digits

-- The fewest length octets of a definite length (X.690, 10.1).
abbrev pub shortest_length : ℕ → List ℕ
shortest_length n =
    if nat_lt n 128 then n ∷ [] else let digits = without_zeros (to_be_bytes w64 n) in (128 + length digits) ∷ digits

-- The canonical spelling of one element around its content octets.
abbrev pub enclosed : Identifier → List ℕ → List ℕ
enclosed i content = identifier_octets i ++ shortest_length (length content) ++ content

-- The canonical spelling: each length definite and in the fewest octets.
abbrev mutual
  pub canonical : Element → List ℕ
  canonical (Primitive class tag content) = enclosed (identifier false class tag) content
  canonical (Constructed class tag members) = enclosed (identifier true class tag) (canonical_all members)

  pub canonical_all : Elements → List ℕ
  canonical_all Nil = []
  canonical_all (More e es) = canonical e ++ canonical_all es

-- An element that has a spelling at that depth, and a length below 2 ^ 64. The primitive element of
-- class 0 and tag number 0 with no content has none in the shortest form: 00 00 ends a content.
abbrev mutual
  pub HasCanonical : ℕ → Element → Type 0
  HasCanonical depth (Primitive class tag content) =
      (depth ≤ deepest) × (class < 4) × (tag < 2 ^ 31) × (length content < 2 ^ 64)
      × (class ≡ 0 → tag ≡ 0 → content ≡ [] → ⊥)
  HasCanonical depth (Constructed class tag members) =
      (depth ≤ deepest) × (class < 4) × (tag < 2 ^ 31) × (length (canonical_all members) < 2 ^ 64)
      × HaveCanonical (depth + 1) members

  pub HaveCanonical : ℕ → Elements → Type 0
  HaveCanonical depth Nil = Unit {0}
  HaveCanonical depth (More e es) = HasCanonical depth e × HaveCanonical depth es
