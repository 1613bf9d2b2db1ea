-- What octets say of values, attributes and assertions is within the limits.
use Rattle.std.proofs.Common.{◌≡◌, ℕ, zero, suc, ◌≤◌, Bool, true, false, not, cond, ◌&&◌, nat_le, List, [], ◌∷◌, length, map, refl, sym, ap, ap₂, subst, ◌∙◌, arith}
use Rattle.std.specs.Prelude.{ℤ}
use Rattle.std.proofs.lemmas.Bool.{leb-true}
use Rattle.std.specs.List.{find}
use Rattle.std.specs.Option.{is_some}
use Rattle.std.specs.declared.option.Option.{Option}
use Rattle.std.specs.declared.option.Option.TheVariants.{None, Some}
use Rattle.x5_model.specs.Words.{is_empty}
use Rattle.x5_model.specs.Members.{here, there}
use Rattle.x5_model.specs.Values.{TypeRef, Value}
use Rattle.x5_model.specs.Normal.{most_octets, is_oid, oid_content_len}
use Rattle.x5_model.specs.Assertions.{offered, begins_value, ends_value}
use Rattle.x5_model.specs.Filters.{Piece}
use Rattle.x5_model.specs.Requests.{Attribute}
use Rattle.x5_model.proofs.Lists.{both_true, and_true}
use Rattle.x5_model_typed.specs.Nodes as nodes
use Rattle.x5_model_typed.specs.Nodes.{Node, Nodes, Vacant, Flag, Number, Oid, Bits, Octets, Chosen, Many, Nil, More, parts}
use Rattle.x5_model_typed.specs.Named as named
use Rattle.x5_model_typed.specs.Forms.{Primitive, Joined, Alternative, plain, ruled, universal}
use Rattle.x5_model_typed.specs.Leaves.{where_so, oid, short_oid, oid_octets, octet_string}
use Rattle.x5_model_typed.specs.Rules.{value_in, name_rule, some_members, text_rule, is_initial, is_final, in_their_places, parts_rule}
use Rattle.x5_model_typed.specs.Written.{leaf_octets, can_hold, is_marked}
use Rattle.x5_model_typed.specs.Layouts as layouts
use Rattle.x5_model_typed.specs.Layouts.{Surroundings, layout}
use Rattle.x5_model_typed_laws.specs.Fits.{Fits, FitsIn, whole, made, chosen, chosen_made}
use Rattle.x5_model_typed_laws.proofs.Leaves.{so}
use Rattle.x5_model_messages.specs.Terms.{type_in, attribute_in, assertion_in}
use Rattle.x5_model_messages.specs.FilterTerms.{piece_in, substrings_in}
use Rattle.x5_model_fitting.specs.Names.{Each, WrittenNameWithin}
use Rattle.x5_model_fitting.specs.Terms.{TypeWithin, ValueWithin, OfferedWithin, AttributeWithin, AssertionWithin, PartWithin, stand_right, SubstringsWithin}
use Rattle.x5_model_fitting.proofs.Taking.{IsMade, only_made, many_in, each_mapped, sequence_in, first_in, sequence_over, IsChoice, choice_in, inner_fits, tag_below}
use Rattle.x5_model_fitting.proofs.TextsSaid.{text_said, part_said, type_said}
use Rattle.x5_model_fitting.proofs.NamesSaid.{name_parts_said}

-- ---- values

held_by : {X : Type 0} (b : Bool) (x : X) (y a : Alternative)
    → cond (cond (is_some (where_so b x)) true false) (Some y) None ≡ Some a → b ≡ true
held_by true x y a h = refl
held_by false x y a h = absurd (cc h)

octets_said : (w : Surroundings) (o : List ℕ) → Fits (layout w) (layout w named.Value) (Octets o)
    → length o ≤ most_octets
octets_said w o (whole a octets free held unmarked writes settles) =
    leb-true (length o) most_octets (held_by (nat_le (length o) most_octets) o _ a held)

arcs_said : (w : Surroundings) (arcs : List ℕ) → Fits (layout w) (layout w named.Value) (Oid arcs)
    → (is_oid arcs ≡ true) × (oid_content_len arcs ≤ most_octets)
arcs_said w arcs (whole a octets free held unmarked writes settles) =
    let v = both_true (is_oid arcs) (short_oid arcs) (held_by (is_oid arcs && short_oid arcs) (oid_octets arcs) _ a
    held) in
    (v.0, leb-true (oid_content_len arcs) most_octets v.1)

abbrev name_value : Alternative
name_value = ruled name_rule (layouts.sequence_of named.Rdn)

some_same : (a b : Alternative) → (let o : Option Alternative = Some a in o) ≡ Some b → b ≡ a
some_same a b h = cc

name_made : (w : Surroundings) (ns : Nodes) → Fits (layout w) (layout w named.Value) (Many ns)
    → IsMade (layout w) name_value (Many ns)
name_made w ns (whole a octets free held unmarked writes settles) =
    let same : a ≡ name_value = some_same name_value a held in
    let nothing : None ≡ Some octets = ap (λ (x : Alternative). leaf_octets x.content (Many ns)) (sym same) ∙ writes in
    absurd (cc nothing)
name_made w ns (made a held unmarked empty inside settles) =
    let same : a ≡ name_value = some_same name_value a held in
    record {
      members = ns;
      is_many = refl;
      within = subst (λ (x : Alternative). FitsIn (layout w) x.content ns) same inside;
      settled = subst (λ (x : Alternative). x.settles (Many ns) ≡ Some (Many ns)) same settles;
    }

-- what is no name says the empty one
nothing_said : WrittenNameWithin []
nothing_said = record { few = omega arith; rdns = λ r i. elim i [ ] }

pub value_said : (w : Surroundings) (n : Node) → Fits (layout w) (layout w named.Value) n → ValueWithin (value_in n)
value_said w (nodes.Text t) f = text_said w t f
value_said w (Octets o) f = octets_said w o f
value_said w (Oid arcs) f = arcs_said w arcs f
value_said w (Many ns) f = name_parts_said w (Many ns) (name_made w ns f)
value_said w Vacant f = nothing_said
value_said w (Flag b) f = nothing_said
value_said w (Number k) f = nothing_said
value_said w (Bits b) f = nothing_said
value_said w (Chosen tag n) f = nothing_said

-- ---- attributes

pub map_some : {X : Type 0} (f : Node → X) (ns : List Node) → not (is_empty ns) ≡ true → is_empty (map f ns) ≡ false
map_some f [] h = absurd (cc h)
map_some f (n ∷ ns) h = refl

-- a list of values, of which each is so
pub record AreValues (P : Node → Type 0) (n : Node) : Type 0 where
  pub some : not (is_empty (parts n)) ≡ true
  pub each : Each P (parts n)

pub values_said : (w : Surroundings) (n : Node) → Fits (layout w) (layout w named.Values) n
    → AreValues (λ x. ValueWithin (value_in x)) n
values_said w n f =
    let m = only_made (layout w) (ruled some_members (layouts.set_of named.Value)) n refl refl f in
    record {
      some = (so (not (is_empty (parts n))) n n m.settled).0;
      each = many_in (layout w) _ named.Value (λ x. ValueWithin (value_in x)) refl (value_said w) n m;
    }

abbrev pub two : Node → Node → Node
two a b = Many (More a (More b Nil))

-- a type, and what stands behind it
pub record IsTyped (P : Node → Type 0) (n : Node) : Type 0 where
  pub type : Node
  pub behind : Node
  pub is : n ≡ two type behind
  pub type_within : TypeWithin (type_in type)
  pub so_behind : P behind

pub typed_in : (w : Surroundings) (form : named.Named) (P : Node → Type 0)
    → ((n : Node) → Fits (layout w) (layout w form) n → P n) → (n : Node)
    → Fits (layout w) (layouts.is (layouts.sequence (plain named.AnyOid ∷ plain form ∷ []))) n → IsTyped P n
typed_in w form P of n f =
    let m = only_made (layout w) (layouts.sequence (plain named.AnyOid ∷ plain form ∷ [])) n refl refl f in
    let a = first_in (layout w) named.AnyOid _ (λ x. TypeWithin (type_in x)) (type_said w) m.members
    (sequence_in (layout w) _ m.members m.within) in
    let b = first_in (layout w) form [] P of a.others a.rest in
    record {
      type = a.first;
      behind = b.first;
      is =
          m.is_many ∙ ap Many (a.split ∙ ap (More a.first) (b.split ∙ ap (More b.first)
          (sequence_over (layout w) b.others b.rest)));
      type_within = a.is;
      so_behind = b.is;
    }

offered_within : (t : TypeRef) (v : Value) → ValueWithin v → OfferedWithin t (offered t v)
offered_within t v h = record { value = h; normal = refl }

pub attribute_said : (w : Surroundings) (n : Node) → Fits (layout w) (layout w named.Attribute) n
    → AttributeWithin (attribute_in n)
attribute_said w n f =
    let t = typed_in w named.Values (AreValues (λ x. ValueWithin (value_in x))) (values_said w) n f in
    subst (λ (x : Node). AttributeWithin (attribute_in x)) (sym t.is)
    (record {
      type = t.type_within;
      some = map_some (λ v. offered (type_in t.type) (value_in v)) (parts t.behind) t.so_behind.some;
      values =
          each_mapped (OfferedWithin (type_in t.type)) (λ v. offered (type_in t.type) (value_in v)) (parts t.behind)
          (λ v i. offered_within (type_in t.type) (value_in v) (t.so_behind.each v i));
    })

pub attributes_said : (w : Surroundings) (n : Node) → Fits (layout w) (layout w named.Attributes) n
    → Each AttributeWithin (map attribute_in (parts n))
attributes_said w n f =
    each_mapped AttributeWithin attribute_in (parts n)
    (many_in (layout w) _ named.Attribute (λ x. AttributeWithin (attribute_in x)) refl (attribute_said w) n
    (only_made (layout w) (layouts.set_of named.Attribute) n refl refl f))

pub assertion_said : (w : Surroundings) (n : Node) → Fits (layout w) (layout w named.Assertion) n
    → AssertionWithin (assertion_in n)
assertion_said w n f =
    let t = typed_in w named.Value (λ x. ValueWithin (value_in x)) (value_said w) n f in
    subst (λ (x : Node). AssertionWithin (assertion_in x)) (sym t.is)
    (record { type = t.type_within; value = t.so_behind; normal = refl })

-- ---- substrings: what fits as a part is a text

abbrev oid_part : Alternative
oid_part = ruled text_rule (universal 6 (Primitive (oid short_oid)))

abbrev octets_part : Alternative
octets_part = ruled text_rule (universal 4 (Joined octet_string))

abbrev name_part : Alternative
name_part = ruled text_rule (layouts.sequence_of named.Rdn)

held_one : (c : Bool) (y a : Alternative) → cond c (Some y) None ≡ Some a → a ≡ y
held_one true y a h = cc
held_one false y a h = absurd (cc h)

not_kept : (a b : Alternative) (n : Node) → a ≡ b → b.settles n ≡ None → a.settles n ≡ Some n → ⊥
not_kept a b n e refused taken =
    let nothing : None ≡ Some n = sym refused ∙ ap (λ (x : Alternative). x.settles n) (sym e) ∙ taken in cc nothing

no_octets : (w : Surroundings) (o : List ℕ) → Fits (layout w) (layout w named.Part) (Octets o) → ⊥
no_octets w o (whole a octets free held unmarked writes settles) =
    not_kept a octets_part (Octets o) (held_one (can_hold (Octets o) octets_part) octets_part a held) refl settles

no_arcs : (w : Surroundings) (arcs : List ℕ) → Fits (layout w) (layout w named.Part) (Oid arcs) → ⊥
no_arcs w arcs (whole a octets free held unmarked writes settles) =
    not_kept a oid_part (Oid arcs) (held_one (can_hold (Oid arcs) oid_part) oid_part a held) refl settles

no_name : (w : Surroundings) (ns : Nodes) → Fits (layout w) (layout w named.Part) (Many ns) → ⊥
no_name w ns (whole a octets free held unmarked writes settles) =
    not_kept a name_part (Many ns) (held_one (can_hold (Many ns) name_part) name_part a held) refl settles
no_name w ns (made a held unmarked empty inside settles) =
    not_kept a name_part (Many ns) (held_one (can_hold (Many ns) name_part) name_part a held) refl settles

no_vacant : (w : Surroundings) → Fits (layout w) (layout w named.Part) Vacant → ⊥
no_vacant w (whole a octets free held unmarked writes settles) = cc held

no_flag : (w : Surroundings) (b : Bool) → Fits (layout w) (layout w named.Part) (Flag b) → ⊥
no_flag w b (whole a octets free held unmarked writes settles) = cc held

no_number : (w : Surroundings) (k : ℤ) → Fits (layout w) (layout w named.Part) (Number k) → ⊥
no_number w k (whole a octets free held unmarked writes settles) = cc held

no_bits : (w : Surroundings) (b : List Bool) → Fits (layout w) (layout w named.Part) (Bits b) → ⊥
no_bits w b (whole a octets free held unmarked writes settles) = cc held

no_chosen : (w : Surroundings) (tag : ℕ) (n : Node) → Fits (layout w) (layout w named.Part) (Chosen tag n) → ⊥
no_chosen w tag n (whole a octets free held unmarked writes settles) = cc free
no_chosen w tag n (chosen a other form found c f settles) = cc found
no_chosen w tag _ (chosen_made a other found inside settles) = cc found

text_only : (w : Surroundings) (n : Node) → Fits (layout w) (layout w named.Part) n → PartWithin (value_in n)
text_only w (nodes.Text t) f = part_said w t f
text_only w (Octets o) f = absurd (no_octets w o f)
text_only w (Oid arcs) f = absurd (no_arcs w arcs f)
text_only w (Many ns) f = absurd (no_name w ns f)
text_only w Vacant f = absurd (no_vacant w f)
text_only w (Flag b) f = absurd (no_flag w b f)
text_only w (Number k) f = absurd (no_number w k f)
text_only w (Bits b) f = absurd (no_bits w b f)
text_only w (Chosen tag n) f = absurd (no_chosen w tag n f)

-- a part with its place
record IsPiece (n : Node) : Type 0 where
  text : PartWithin (piece_in n).value
  begins : is_initial n ≡ begins_value (piece_in n).place
  ends : is_final n ≡ ends_value (piece_in n).place

piece_by : (w : Surroundings) (n : Node) (c : IsChoice (layout w) (layout w named.PlacedPart) n) (tag : ℕ)
    → find (is_marked tag) (layout w named.PlacedPart) ≡ Some c.alternative → IsPiece (Chosen tag c.inner)
piece_by w n c zero e = record {
  text = text_only w c.inner (inner_fits (layout w) (layout w named.PlacedPart) n c named.Part _ refl e);
  begins = refl;
  ends = refl;
}
piece_by w n c (suc zero) e = record {
  text = text_only w c.inner (inner_fits (layout w) (layout w named.PlacedPart) n c named.Part _ refl e);
  begins = refl;
  ends = refl;
}
piece_by w n c (suc (suc zero)) e = record {
  text = text_only w c.inner (inner_fits (layout w) (layout w named.PlacedPart) n c named.Part _ refl e);
  begins = refl;
  ends = refl;
}
piece_by w n c (suc (suc (suc k))) e =
    absurd (omega (arith, tag_below (layout w named.PlacedPart) (suc (suc (suc k))) 3 c.alternative refl e))

piece_said : (w : Surroundings) (n : Node) → Fits (layout w) (layout w named.PlacedPart) n → IsPiece n
piece_said w n f =
    let c = choice_in (layout w) (layout w named.PlacedPart) n refl refl f in
    subst IsPiece (sym c.is) (piece_by w n c c.tag c.found)

places_said : (ns : List Node) → Each IsPiece ns → in_their_places ns ≡ true → stand_right (map piece_in ns) ≡ true
places_said [] h e = refl
places_said (p ∷ []) h e = refl
places_said (p ∷ q ∷ ns) h e =
    let a = both_true (not (is_final p) && not (is_initial q)) (in_their_places (q ∷ ns)) e in
    and_true (not (ends_value (piece_in p).place) && not (begins_value (piece_in q).place))
    (stand_right (map piece_in (q ∷ ns)))
    (sym (ap₂ (λ (x y : Bool). not x && not y) (h p here).ends (h q (there here)).begins) ∙ a.0)
    (places_said (q ∷ ns) (λ x i. h x (there i)) a.1)

record ArePieces (n : Node) : Type 0 where
  some : not (is_empty (parts n)) ≡ true
  right : in_their_places (parts n) ≡ true
  each : Each IsPiece (parts n)

pieces_said : (w : Surroundings) (n : Node) → Fits (layout w) (layout w named.Parts) n → ArePieces n
pieces_said w n f =
    let m = only_made (layout w) (ruled parts_rule (layouts.sequence_of named.PlacedPart)) n refl refl f in
    let v = both_true (not (is_empty (parts n))) (in_their_places (parts n))
    (so (not (is_empty (parts n)) && in_their_places (parts n)) n n m.settled).0 in
    record { some = v.0; right = v.1; each = many_in (layout w) _ named.PlacedPart IsPiece refl (piece_said w) n m }

pub substrings_said : (w : Surroundings) (n : Node) → Fits (layout w) (layout w named.Substrings) n
    → SubstringsWithin (substrings_in n)
substrings_said w n f =
    let t = typed_in w named.Parts ArePieces (pieces_said w) n f in
    subst (λ (x : Node). SubstringsWithin (substrings_in x)) (sym t.is)
    (record {
      type = t.type_within;
      some = map_some piece_in (parts t.behind) t.so_behind.some;
      places = places_said (parts t.behind) t.so_behind.each t.so_behind.right;
      pieces =
          each_mapped (λ (p : Piece). PartWithin p.value) piece_in (parts t.behind)
          (λ p i. (t.so_behind.each p i).text);
      normal = refl;
    })
