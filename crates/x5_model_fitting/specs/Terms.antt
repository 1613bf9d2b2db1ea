-- Types, values, attributes and assertions within the limits of messages (X.501, section 8; X.511, sections 7 and 9;
-- X.660; X.690, section 8).
use Rattle.std.specs.Prelude.{◌≡◌, ◌≤◌, Bool, true, false, not, ◌&&◌, List, [], ◌∷◌, length}
use Rattle.x5_model.specs.Words.{is_empty}
use Rattle.x5_model.specs.Values.{TypeRef, Value, TextValue, OctetsValue, OidValue, NameOf, Offered}
use Rattle.x5_model.specs.Types.{is_type}
use Rattle.x5_model.specs.Normal.{most_octets, is_oid, oid_content_len}
use Rattle.x5_model.specs.Assertions.{offered, normal_for, parts_for, begins_value, ends_value}
use Rattle.x5_model.specs.Filters.{Assertion, Piece, SubstringItem}
use Rattle.x5_model.specs.Requests.{Attribute}
use Rattle.x5_model_text.specs.TypeText.{arcs_of_type}
use Rattle.x5_model_fitting.specs.Names.{Each, TextWithin, WrittenNameWithin}

-- A type: of the table by its number, or any other object identifier by its arcs.
pub record TypeWithin (type : TypeRef) : Type 0 where
  pub is : is_type type ≡ true
  pub oid : is_oid (arcs_of_type type) ≡ true

-- A value, of whatever kind: a text, octets and the content of an object identifier have 1,024 octets at most.
abbrev pub ValueWithin : Value → Type 0
ValueWithin (TextValue t) = TextWithin t
ValueWithin (OctetsValue octets) = length octets ≤ most_octets
ValueWithin (OidValue arcs) = (is_oid arcs ≡ true) × (oid_content_len arcs ≤ most_octets)
ValueWithin (NameOf n) = WrittenNameWithin n

-- A value that is offered for a type, with its normal form where it's of the type's kind.
pub record OfferedWithin (type : TypeRef) (v : Offered) : Type 0 where
  pub value : ValueWithin v.value
  pub normal : v ≡ offered type v.value

-- An attribute: a type and one value at least.
pub record AttributeWithin (a : Attribute) : Type 0 where
  pub type : TypeWithin a.kind
  pub some : is_empty a.values ≡ false
  pub values : Each (OfferedWithin a.kind) a.values

-- What is asserted of a type (X.511, section 7.8).
pub record AssertionWithin (a : Assertion) : Type 0 where
  pub type : TypeWithin a.kind
  pub value : ValueWithin a.value
  pub normal : a.normal ≡ normal_for a.kind a.value

-- ---- substrings: one part at least, each a text; only the first may begin a value, and only the last may end one

abbrev pub PartWithin : Value → Type 0
PartWithin (TextValue t) = TextWithin t
PartWithin (OctetsValue octets) = ⊥
PartWithin (OidValue arcs) = ⊥
PartWithin (NameOf n) = ⊥

abbrev pub stand_right : List Piece → Bool
stand_right [] = true
stand_right (p ∷ []) = true
stand_right (p ∷ q ∷ ps) = not (ends_value p.place) && not (begins_value q.place) && stand_right (q ∷ ps)

pub record SubstringsWithin (s : SubstringItem) : Type 0 where
  pub type : TypeWithin s.kind
  pub some : is_empty s.pieces ≡ false
  pub places : stand_right s.pieces ≡ true
  pub pieces : Each (λ p. PartWithin p.value) s.pieces
  pub normal : s.normal ≡ parts_for s.kind s.pieces
