-- An element that was found, and the octets that spell it.
use Rattle.std.specs.Prelude.{◌≡◌, ℕ, ◌+◌, ◌-◌, true, false, List, [], ◌∷◌, ◌++◌, length}
use Rattle.std.specs.declared.option.Option.TheVariants.{None, Some}
use Rattle.x5_model_octets.specs.Headers.{IsHeader}
use Rattle.x5_model_octets.specs.Elements.{Element, Primitive, Constructed, Spells, SpellsAll, identifier}
use Rattle.std.specs.declared.option.Option.{Option}
use Rattle.x5_model_octets.specs.Faults.{Head}
use Rattle.x5_ber.specs.declared.element.Tlv.{Tlv}
use Rattle.x5_ber.specs.Reading.{Stands}

-- The header before a content of so many octets, and the octets behind it: none, or end-of-contents
-- octets (X.690, 8.1.3.2).
pub data Frames (class tag n : ℕ) (header tail : List ℕ) : Type 0 where
  definite : IsHeader (identifier true class tag) (Some n) header → tail ≡ [] → Frames class tag n header tail
  indefinite : IsHeader (identifier true class tag) None header → tail ≡ 0 ∷ 0 ∷ [] → Frames class tag n header tail

-- The element is of that class, form and tag, with that content between header and tail.
abbrev pub Describes : Element → Tlv → List ℕ → List ℕ → List ℕ → Type 0
Describes (Primitive class tag octets) tlv header content tail =
    (tlv.class ≡ class) × (tlv.constructed ≡ false) × (tlv.tag ≡ tag) × (content ≡ octets)
    × IsHeader (identifier false class tag) (Some (length content)) header × (tail ≡ [])
Describes (Constructed class tag members) tlv header content tail =
    (tlv.class ≡ class) × (tlv.constructed ≡ true) × (tlv.tag ≡ tag) × SpellsAll 2 members content
    × Frames class tag (length content) header tail

-- An element is spelled from the place to the next one, its content where tlv says.
pub record IsElementAt (bytes : List ℕ) (at : ℕ) (tlv : Tlv) (next : ℕ) : Type 0 where
  pub element : Element
  pub header : List ℕ
  pub content : List ℕ
  pub tail : List ℕ
  pub spells : Spells 1 element (header ++ (content ++ tail))
  pub stands : Stands bytes at (header ++ (content ++ tail))
  pub next_is : next ≡ at + length (header ++ (content ++ tail))
  pub start : tlv.start ≡ at + length header
  pub end : tlv.end ≡ tlv.start + length content
  pub describes : Describes element tlv header content tail

-- What a header says of its element, which ends before the next place.
abbrev pub end_before : Option ℕ → ℕ → ℕ
end_before None next = next - 2
end_before (Some n) next = next

pub record IsTlv (head : Head) (next : ℕ) (tlv : Tlv) : Type 0 where
  pub class : tlv.class ≡ head.identifier.class
  pub constructed : tlv.constructed ≡ head.identifier.constructed
  pub tag : tlv.tag ≡ head.identifier.tag
  pub start : tlv.start ≡ head.content
  pub end : tlv.end ≡ end_before head.extent next
