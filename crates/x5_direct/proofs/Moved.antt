-- A tree that lies somewhere lies at any other place too, and at any other depth where there is room for half as many
-- levels as it has octets.
use Rattle.std.proofs.Common.{◌≡◌, ℕ, ◌+◌, ◌-◌, ◌*◌, ◌≤◌, true, List, [], ◌∷◌, ◌++◌, length, refl, ap, sym, ◌∙◌, arith}
use Rattle.std.proofs.Common.{length-append}
use Rattle.std.specs.declared.option.Option.{Option}
use Rattle.std.specs.declared.option.Option.TheVariants.{None, Some}
use Rattle.x5_model_octets.specs.Headers as headers
use Rattle.x5_model_octets.specs.Headers.{Identifier, IsIdentifier, IsLength, IsHeader}
use Rattle.x5_model_octets.specs.Elements.{deepest, identifier}
use Rattle.x5_model_typed.specs.Trees as trees
use Rattle.x5_model_typed.specs.Trees.{Tree, Trees, Leaf, Branch, Bare, Row, Frames, Lies, LieAll, class_of, tag_of}

-- ---- places

-- Each element so many octets further on.
abbrev mutual
  pub moved : ℕ → Tree → Tree
  moved by (Leaf at class tag content) = Leaf (by + at) class tag content
  moved by (Branch at class tag members) = Branch (by + at) class tag (all_moved by members)

  pub all_moved : ℕ → Trees → Trees
  all_moved by Bare = Bare
  all_moved by (Row t ts) = Row (moved by t) (all_moved by ts)

pub class_moved : (by : ℕ) (t : Tree) → class_of (moved by t) ≡ class_of t
class_moved by (Leaf at class tag content) = refl
class_moved by (Branch at class tag members) = refl

pub tag_moved : (by : ℕ) (t : Tree) → tag_of (moved by t) ≡ tag_of t
tag_moved by (Leaf at class tag content) = refl
tag_moved by (Branch at class tag members) = refl

-- ---- a header takes two octets at least

some_identifier : (i : Identifier) (octets : List ℕ) → IsIdentifier i octets → 1 ≤ length octets
some_identifier i octets (headers.low small low whole) = omega (arith, ap length whole)
some_identifier i octets (headers.high groups small large below unpadded is whole) = omega (arith, ap length whole)

some_length : (n : Option ℕ) (octets : List ℕ) → IsLength n octets → 1 ≤ length octets
some_length n octets (headers.short k small is whole) = omega (arith, ap length whole)
some_length n octets (headers.long digits some few is whole) = omega (arith, ap length whole)
some_length n octets (headers.indefinite is whole) = omega (arith, ap length whole)

some_header : (i : Identifier) (n : Option ℕ) (octets : List ℕ) → IsHeader i n octets → 2 ≤ length octets
some_header i n octets h =
    let one = some_identifier i h.identifier_octets h.identifier in
    let two = some_length n h.length_octets h.length_form in
    omega (arith, one, two, ap length h.whole, length-append h.identifier_octets h.length_octets)

content_shorter : (header : List ℕ) (class tag : ℕ) (content octets : List ℕ) → Frames header class tag content octets
    → length content + 2 ≤ length octets
content_shorter header class tag content octets (trees.definite is whole) =
    let two = some_header (identifier true class tag) (Some (length content)) header is in
    omega (arith, two, ap length whole, length-append header content)
content_shorter header class tag content octets (trees.indefinite is whole) =
    let two = some_header (identifier true class tag) None header is in
    omega (
      arith,
      two,
      ap length whole,
      length-append header (content ++ (0 ∷ 0 ∷ [])),
      length-append content (0 ∷ 0 ∷ []),
    )

-- ---- what lies there

mutual
  pub lies_moved : (by levels depth depth' at at' : ℕ) (t : Tree) (octets : List ℕ) → at' ≡ by + at
      → length octets ≤ 2 * levels + 1 → depth' + levels ≤ deepest → Lies depth at t octets
      → Lies depth' at' (moved by t) octets
  lies_moved by levels depth depth' at at' (Leaf place class tag content) octets there few room l = (
    ap (λ (p : ℕ). by + p) l.0 ∙ sym there,
    record {
      deep = omega (arith, room);
      header = l.1.header;
      is_header = l.1.is_header;
      whole = l.1.whole;
      no_end = l.1.no_end;
    },
  )
  lies_moved by levels depth depth' at at' (Branch place class tag members) octets there few room l =
      let less : length l.3 + 2 ≤ length octets = content_shorter l.2 class tag l.3 octets l.5 in (
        ap (λ (p : ℕ). by + p) l.0 ∙ sym there,
        omega (arith, room),
        l.2,
        l.3,
        lie_moved by (levels - 1) (depth + 1) (depth' + 1) (at + length l.2) (at' + length l.2) members l.3
            (omega (arith, there)) (omega (arith, few, less)) (omega (arith, few, less, room)) l.4,
        l.5,
      )

  pub lie_moved : (by levels depth depth' at at' : ℕ) (ts : Trees) (octets : List ℕ) → at' ≡ by + at
      → length octets ≤ 2 * levels + 1 → depth' + levels ≤ deepest → LieAll depth at ts octets
      → LieAll depth' at' (all_moved by ts) octets
  lie_moved by levels depth depth' at at' Bare octets there few room l = l
  lie_moved by levels depth depth' at at' (Row t ts) octets there few room l =
      let all : length octets ≡ length l.0 + length l.1 = ap length l.4 ∙ length-append l.0 l.1 in (
        l.0,
        l.1,
        lies_moved by levels depth depth' at at' t l.0 there (omega (arith, few, all)) room l.2,
        lie_moved by levels depth depth' (at + length l.0) (at' + length l.0) ts l.1 (omega (arith, there))
            (omega (arith, few, all)) room l.3,
        l.4,
      )
