-- Values, attributes and assertions within the limits fit, and are as they are spelled.
use Rattle.std.proofs.Common.{◌≡◌, ℕ, Bool, true, false, not, ◌&&◌, ◌==◌, nat_le, List, [], ◌∷◌, length, map, refl, ap, ap₂, ◌∙◌}
use Rattle.std.proofs.lemmas.Bool.{le-leb}
use Rattle.std.specs.List.{find}
use Rattle.std.specs.declared.option.Option.TheVariants.{Some}
use Rattle.x5_model.specs.Words.{is_empty}
use Rattle.x5_model.specs.Members.{here, there}
use Rattle.x5_model.specs.Values.{TypeRef, Value, TextValue, OctetsValue, OidValue, NameOf, Offered}
use Rattle.x5_model.specs.Normal.{most_octets, is_oid}
use Rattle.x5_model.specs.Assertions.{offered, begins_value, ends_value}
use Rattle.x5_model.specs.Filters.{Assertion, PiecePlace, Initial, Any, Last, Piece, SubstringItem}
use Rattle.x5_model.specs.Requests.{Attribute}
use Rattle.x5_model.proofs.Lists.{and_true, all_in}
use Rattle.x5_model_typed.specs.Nodes as nodes
use Rattle.x5_model_typed.specs.Nodes.{Node, Octets, row, list}
use Rattle.x5_model_typed.specs.Named as named
use Rattle.x5_model_typed.specs.Forms.{Primitive, Joined, Explicit, universal, choice, ruled}
use Rattle.x5_model_typed.specs.Leaves.{oid, short_oid, oid_octets, octet_string}
use Rattle.x5_model_typed.specs.Rules.{name_rule, in_their_places, parts_rule}
use Rattle.x5_model_typed.specs.Typed.{required}
use Rattle.x5_model_typed.specs.Written.{can_hold, is_marked}
use Rattle.x5_model_typed.specs.Layouts.{Surroundings, layout, sequence_of}
use Rattle.x5_model_typed.proofs.Laws.{list_row}
use Rattle.x5_model_typed_laws.specs.Fits as fits
use Rattle.x5_model_typed_laws.specs.Fits.{Fits}
use Rattle.x5_model_typed_laws.proofs.Leaves.{let_through}
use Rattle.x5_model_messages.specs.Terms.{node_of, value_node, attribute_node, assertion_node}
use Rattle.x5_model_messages.specs.FilterTerms.{place_tag, piece_node, substrings_node}
use Rattle.x5_model_messages.specs.Laws.{is_sayable, IsAttribute, AreAttributes, IsAssertion, IsSubstrings}
use Rattle.x5_model_fitting.specs.Names.{Each}
use Rattle.x5_model_fitting.specs.Terms.{ValueWithin, OfferedWithin, AttributeWithin, AssertionWithin, PartWithin, stand_right, SubstringsWithin}
use Rattle.x5_model_fitting.proofs.Making.{each_fits}
use Rattle.x5_model_fitting.proofs.Texts.{text_fits, part_fits, type_fits}
use Rattle.x5_model_fitting.proofs.Names.{name_members, name_kept, name_types}

-- ---- values

octets_found : (w : Surroundings) (o : List ℕ) → nat_le (length o) most_octets ≡ true
    → find (can_hold (Octets o)) (layout w named.Value) ≡ Some (universal 4 (Joined octet_string))
octets_found w o e = rw e refl

octets_fit : (w : Surroundings) (o : List ℕ) → nat_le (length o) most_octets ≡ true
    → Fits (layout w) (layout w named.Value) (Octets o)
octets_fit w o e =
    fits.whole (universal 4 (Joined octet_string)) o refl (octets_found w o e) refl
    (let_through (nat_le (length o) most_octets) o e) refl

arcs_fit : (w : Surroundings) (arcs : List ℕ) → (is_oid arcs && short_oid arcs) ≡ true
    → Fits (layout w) (layout w named.Value) (nodes.Oid arcs)
arcs_fit w arcs e =
    fits.whole (universal 6 (Primitive (oid short_oid))) (oid_octets arcs) refl (rw e refl) refl
    (let_through (is_oid arcs && short_oid arcs) (oid_octets arcs) e) refl

pub value_fits : (w : Surroundings) (v : Value) → ValueWithin v → Fits (layout w) (layout w named.Value) (value_node v)
value_fits w (TextValue t) h = text_fits w t h
value_fits w (OctetsValue o) h = octets_fit w o (le-leb (length o) most_octets h)
value_fits w (OidValue arcs) h =
    arcs_fit w arcs (and_true (is_oid arcs) (short_oid arcs) h.0 (le-leb _ most_octets h.1))
value_fits w (NameOf n) h =
    fits.made (ruled name_rule (sequence_of named.Rdn)) refl refl refl (fits.members (name_members w n h))
    (name_kept n h)

pub value_said : (v : Value) → ValueWithin v → is_sayable v ≡ true
value_said (TextValue t) h = refl
value_said (OctetsValue o) h = refl
value_said (OidValue arcs) h = refl
value_said (NameOf n) h = name_types n h

-- ---- attributes

pub still_some : {X : Type 0} (f : X → Node) (xs : List X) → is_empty xs ≡ false
    → not (is_empty (list (row (map f xs)))) ≡ true
still_some f [] h = absurd (cc h)
still_some f (x ∷ xs) h = refl

pub values_fit : {X : Type 0} (w : Surroundings) (of : X → Value) (xs : List X) → is_empty xs ≡ false
    → Each (λ x. ValueWithin (of x)) xs
    → Fits (layout w) (layout w named.Values) (node_of (map (λ x. value_node (of x)) xs))
values_fit w of xs some h =
    fits.made _ refl refl refl
    (fits.members (each_fits (layout w) named.Value (λ x. value_node (of x)) xs (λ x i. value_fits w (of x) (h x i))))
    (let_through (not (is_empty (list (row (map (λ x. value_node (of x)) xs)))))
    (node_of (map (λ x. value_node (of x)) xs))
    (still_some (λ x. value_node (of x)) xs some))

pub attribute_fits : (w : Surroundings) (a : Attribute) → AttributeWithin a
    → Fits (layout w) (layout w named.Attribute) (attribute_node a)
attribute_fits w a h =
    fits.made _ refl refl refl
    (fits.sequence (fits.given refl (type_fits w a.kind h.type) required
    (fits.given refl (values_fit w (λ (v : Offered). v.value) a.values h.some (λ v i. (h.values v i).value)) required
    fits.over)))
    refl

pub attributes_fit : (w : Surroundings) (as' : List Attribute) → Each AttributeWithin as'
    → Fits (layout w) (layout w named.Attributes) (node_of (map attribute_node as'))
attributes_fit w as' h =
    fits.made _ refl refl refl
    (fits.members (each_fits (layout w) named.Attribute attribute_node as' (λ a i. attribute_fits w a (h a i)))) refl

offered_same : (type : TypeRef) (vs : List Offered) → Each (OfferedWithin type) vs
    → vs ≡ map (λ v. offered type v.value) vs
offered_same type [] h = refl
offered_same type (v ∷ vs) h =
    ap₂ (λ (x : Offered) (xs : List Offered). x ∷ xs) (h v here).normal (offered_same type vs (λ x i. h x (there i)))

pub attribute_is : (a : Attribute) → AttributeWithin a → IsAttribute a
attribute_is a h = (
  h.type.is,
  all_in (λ (v : Offered). is_sayable v.value) a.values (λ v i. value_said v.value (h.values v i).value),
  offered_same a.kind a.values h.values,
)

pub attributes_are : (as' : List Attribute) → Each AttributeWithin as' → AreAttributes as'
attributes_are [] h = tt
attributes_are (a ∷ as') h = (attribute_is a (h a here), attributes_are as' (λ x i. h x (there i)))

-- ---- assertions

pub assertion_fits : (w : Surroundings) (a : Assertion) → AssertionWithin a
    → Fits (layout w) (layout w named.Assertion) (assertion_node a)
assertion_fits w a h =
    fits.made _ refl refl refl
    (fits.sequence (fits.given refl (type_fits w a.kind h.type) required
    (fits.given refl (value_fits w a.value h.value) required fits.over)))
    refl

pub assertion_is : (a : Assertion) → AssertionWithin a → IsAssertion a
assertion_is a h = (h.type.is, value_said a.value h.value, h.normal)

-- ---- substrings

part_fits_so : (w : Surroundings) (v : Value) → PartWithin v → Fits (layout w) (layout w named.Part) (value_node v)
part_fits_so w (TextValue t) h = part_fits w t h
part_fits_so w (OctetsValue o) h = absurd h
part_fits_so w (OidValue arcs) h = absurd h
part_fits_so w (NameOf n) h = absurd h

placed : (w : Surroundings) (p : PiecePlace)
    → find (is_marked (place_tag p)) (layout w named.PlacedPart) ≡ Some (choice (place_tag p) (Explicit named.Part))
placed w Initial = refl
placed w Any = refl
placed w Last = refl

piece_fits : (w : Surroundings) (p : Piece) → PartWithin p.value
    → Fits (layout w) (layout w named.PlacedPart) (piece_node p)
piece_fits w p h =
    fits.chosen (choice (place_tag p.place) (Explicit named.Part)) (place_tag p.place) named.Part (placed w p.place)
    refl
    (part_fits_so w p.value h) refl

begins_so : (p : PiecePlace) → (place_tag p == 0) ≡ begins_value p
begins_so Initial = refl
begins_so Any = refl
begins_so Last = refl

ends_so : (p : PiecePlace) → (place_tag p == 2) ≡ ends_value p
ends_so Initial = refl
ends_so Any = refl
ends_so Last = refl

pub places_stay : (ps : List Piece) → in_their_places (map piece_node ps) ≡ stand_right ps
places_stay [] = refl
places_stay (p ∷ []) = refl
places_stay (p ∷ q ∷ ps) =
    ap₂ (λ (x y : Bool). x && y)
    (ap₂ (λ (x y : Bool). not x && not y) (ends_so p.place) (begins_so q.place)) (places_stay (q ∷ ps))

parts_kept : (ps : List Piece) → is_empty ps ≡ false → stand_right ps ≡ true
    → parts_rule (node_of (map piece_node ps)) ≡ Some (node_of (map piece_node ps))
parts_kept ps some right =
    let_through (not (is_empty (list (row (map piece_node ps)))) && in_their_places (list (row (map piece_node ps))))
    (node_of (map piece_node ps))
    (and_true (not (is_empty (list (row (map piece_node ps))))) (in_their_places (list (row (map piece_node ps))))
    (still_some piece_node ps some)
    (ap in_their_places (list_row (map piece_node ps)) ∙ places_stay ps ∙ right))

pub substrings_fit : (w : Surroundings) (s : SubstringItem) → SubstringsWithin s
    → Fits (layout w) (layout w named.Substrings) (substrings_node s)
substrings_fit w s h =
    fits.made _ refl refl refl
    (fits.sequence (fits.given refl (type_fits w s.kind h.type) required
    (fits.given refl pieces_fit required fits.over)))
    refl
  where
    pieces_fit : Fits (layout w) (layout w named.Parts) (node_of (map piece_node s.pieces))
    pieces_fit =
        fits.made _ refl refl refl
        (fits.members (each_fits (layout w) named.PlacedPart piece_node s.pieces
        (λ p i. piece_fits w p (h.pieces p i))))
        (parts_kept s.pieces h.some h.places)

part_said : (v : Value) → PartWithin v → is_sayable v ≡ true
part_said (TextValue t) h = refl
part_said (OctetsValue o) h = refl
part_said (OidValue arcs) h = refl
part_said (NameOf n) h = absurd h

pub substrings_are : (s : SubstringItem) → SubstringsWithin s → IsSubstrings s
substrings_are s h =
    (h.type.is, all_in (λ (p : Piece). is_sayable p.value) s.pieces (λ p i. part_said p.value (h.pieces p i)), h.normal)
