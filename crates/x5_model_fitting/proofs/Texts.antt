-- Texts and types within the limits: a text is of characters, and fits as a value and as a part; a type is an object
-- identifier, and fits.
use Rattle.std.proofs.Common.{◌≡◌, ℕ, ◌≤◌, ◌^◌, Bool, true, false, ◌&&◌, ◌||◌, ◌==◌, nat_lt, nat_le, List, [], ◌∷◌, length, refl, ap, ap₂, subst, ◌∙◌, arith}
use Rattle.std.specs.Prelude.{chars, encode_utf8_all, flat_map}
use Rattle.std.proofs.lemmas.Bool.{lt-ltb, le-leb, leb-true}
use Rattle.std.proofs.lemmas.Str.{chars-encodes, IsUtf8-from_is_utf8}
use Rattle.std.specs.Cmp.Lexicographic.{bytes_decides}
use Rattle.std.specs.Int.{to_be_bytes, w32}
use Rattle.std.specs.List.{list_all}
use Rattle.std.specs.Str.{is_utf8, all_scalars}
use Rattle.std.specs.declared.option.Option.{Option}
use Rattle.std.specs.declared.option.Option.TheVariants.{None, Some}
use lib.Utf8.{scalar}
use Rattle.x5_model.specs.Words.{same_octets}
use Rattle.x5_model.specs.Values.{Text, TypeRef, Known}
use Rattle.x5_model.specs.Types.{Row, table, row_of, in_row, is_known, may_name}
use Rattle.x5_model.specs.Normal.{is_oid, is_printable, most_octets}
use Rattle.x5_model.proofs.Decide.{nat_same_decides}
use Rattle.x5_model.proofs.Lists.{both_true, and_true, of_all, of_find}
use Rattle.x5_model_text.specs.TypeText.{arcs_of_type}
use Rattle.x5_model_typed.specs.Nodes as nodes
use Rattle.x5_model_typed.specs.Named as named
use Rattle.x5_model_typed.specs.Forms.{Primitive, Joined, universal}
use Rattle.x5_model_typed.specs.Leaves.{is_length, text_of, is_character, are_characters, universal_string, oid, any_oid, oid_octets}
use Rattle.x5_model_typed.specs.Layouts.{Surroundings, layout, printable}
use Rattle.x5_model_typed_laws.specs.Fits as fits
use Rattle.x5_model_typed_laws.specs.Fits.{Fits}
use Rattle.x5_model_typed_laws.proofs.Leaves.{let_through}
use Rattle.x5_model_messages.specs.Terms.{type_node}
use Rattle.x5_model_fitting.specs.Names.{TextWithin}
use Rattle.x5_model_fitting.specs.Terms.{TypeWithin}
use Rattle.x5_model_fitting.proofs.Making.{leaf_fits}

-- ---- texts

character_by : (c : ℕ) → scalar c ≡ true → is_character c ≡ true
character_by c h = by (nat_lt c 55296) refl h
  where
    by : (b : Bool) → nat_lt c 55296 ≡ b → scalar c ≡ true → (b || (nat_lt 57343 c && nat_lt c 1114112)) ≡ true
    by true e k = refl
    by false e k =
        let over : (nat_le 57344 c && nat_lt c 1114112) ≡ true = rw e at k in
        let w = both_true (nat_le 57344 c) (nat_lt c 1114112) over in
        let least : 57344 ≤ c = leb-true 57344 c w.0 in
        and_true (nat_lt 57343 c) (nat_lt c 1114112) (lt-ltb 57343 c (omega arith)) w.1

characters_by : (cs : List ℕ) → all_scalars cs ≡ true → list_all is_character cs ≡ true
characters_by [] h = refl
characters_by (c ∷ cs) h =
    let w = both_true (scalar c) (all_scalars cs) h in
    ap₂ (λ (x y : Bool). x && y) (character_by c w.0) (characters_by cs w.1)

encoded : (cs : List ℕ) → all_scalars cs ≡ true → are_characters (encode_utf8_all cs) ≡ true
encoded cs h =
    let e : chars (encode_utf8_all cs) ≡ cs = chars-encodes cs h in
    and_true (list_all is_character (chars (encode_utf8_all cs)))
    (same_octets (encode_utf8_all (chars (encode_utf8_all cs))) (encode_utf8_all cs))
    (ap (λ (l : List ℕ). list_all is_character l) e ∙ characters_by cs h)
    ((bytes_decides (encode_utf8_all (chars (encode_utf8_all cs))) (encode_utf8_all cs)).1 (ap encode_utf8_all e))

pub characters_of : (t : Text) → is_utf8 t ≡ true → are_characters t ≡ true
characters_of t h =
    let u = IsUtf8-from_is_utf8 t h in subst (λ (x : List ℕ). are_characters x ≡ true) u.1.1 (encoded u.0 u.1.0)

length_of : (t : Text) → TextWithin t → is_length t ≡ true
length_of t h = and_true (nat_lt 0 (length t)) (nat_le (length t) most_octets) (lt-ltb 0 (length t) h.some)
    (le-leb (length t) most_octets h.short)

module _ (w : Surroundings) (t : Text) (h : TextWithin t) where
  fine : (are_characters t && is_length t) ≡ true
  fine = and_true (are_characters t) (is_length t) (characters_of t h.utf8) (length_of t h)

  pub text_fits : Fits (layout w) (layout w named.Value) (nodes.Text t)
  text_fits = by (text_of is_printable t) refl
    where
      by : (b : Bool) → text_of is_printable t ≡ b → Fits (layout w) (layout w named.Value) (nodes.Text t)
      by true e = fits.whole printable t refl (rw e refl) refl (let_through (text_of is_printable t) t e) refl
      by false e = fits.whole (universal 28 (Joined universal_string)) (flat_map (to_be_bytes w32) (chars t)) refl
          (rw (e, fine) refl) refl (let_through (are_characters t && is_length t)
          (flat_map (to_be_bytes w32) (chars t)) fine) refl

  pub part_fits : Fits (layout w) (layout w named.Part) (nodes.Text t)
  part_fits = by (text_of is_printable t) refl
    where
      by : (b : Bool) → text_of is_printable t ≡ b → Fits (layout w) (layout w named.Part) (nodes.Text t)
      by true e = fits.whole printable t refl (rw e refl) refl (let_through (text_of is_printable t) t e) refl
      by false e = fits.whole (universal 28 (Joined universal_string)) (flat_map (to_be_bytes w32) (chars t)) refl
          (rw (e, fine) refl) refl (let_through (are_characters t && is_length t)
          (flat_map (to_be_bytes w32) (chars t)) fine) refl

-- ---- types

-- the numbers of the table are arcs
row_small : (k : ℕ) (o : Option Row) → row_of k ≡ o → in_row false (λ r. true) o ≡ true → nat_lt k (2 ^ 32) ≡ true
row_small k None e h = absurd (cc h)
row_small k (Some r) e h =
    let w = of_find (λ (x : Row). x.number == k) r table e in
    let small : nat_lt r.number (2 ^ 32) ≡ true = of_all (λ (x : Row). nat_lt x.number (2 ^ 32)) r table refl w.0 in
    subst (λ (m : ℕ). nat_lt m (2 ^ 32) ≡ true) ((nat_same_decides r.number k).0 w.1) small

known_oid : (k : ℕ) → is_known k ≡ true → is_oid (2 ∷ 5 ∷ 4 ∷ k ∷ []) ≡ true
known_oid k h = ap (λ (b : Bool). b && true) (row_small k (row_of k) refl h)

pub known_within : (k : ℕ) → is_known k ≡ true → TypeWithin (Known k)
known_within k h = record { is = h; oid = known_oid k h }

pub naming_known : (k : ℕ) → may_name k ≡ true → is_known k ≡ true
naming_known k h = by (row_of k) h
  where
    by : (o : Option Row) → in_row false (λ r. r.names) o ≡ true → in_row false (λ r. true) o ≡ true
    by None e = absurd (cc e)
    by (Some r) e = refl

pub type_fits : (w : Surroundings) (type : TypeRef) → TypeWithin type
    → Fits (layout w) (layout w named.AnyOid) (type_node type)
type_fits w type h =
    leaf_fits (layout w) (universal 6 (Primitive (oid any_oid))) (type_node type) (oid_octets (arcs_of_type type)) refl
    refl
    (let_through (is_oid (arcs_of_type type) && true) (oid_octets (arcs_of_type type))
    (ap (λ (b : Bool). b && true) h.oid)) refl
