-- A text that was read as one kind of string is written as the first kind that holds it.
use Rattle.std.proofs.Common.{◌≡◌, ℕ, zero, suc, ◌<◌, Bool, true, false, cond, ◌&&◌, ◌||◌, nat_lt, nat_le, List, [], ◌∷◌, length, refl, sym, ap, ap₂, subst, ◌∙◌, arith}
use Rattle.std.specs.Prelude.{chars, encode_utf8_all, flat_map}
use Rattle.std.proofs.lemmas.Bool.{lt-ltb, ltb-true, le-leb}
use Rattle.std.proofs.lemmas.Bool.Decides.{nat_tests}
use Rattle.std.proofs.lemmas.Str.{chars-encodes, chars-IsAscii, encodes-IsAscii}
use Rattle.std.specs.Cmp.Lexicographic.{bytes_decides}
use Rattle.std.specs.Int.{to_be_bytes, w32}
use Rattle.std.specs.List.{find, list_all}
use Rattle.std.specs.Str.{IsAscii, all_scalars}
use Rattle.std.specs.declared.option.Option.{Option}
use Rattle.std.specs.declared.option.Option.TheVariants.{None, Some}
use lib.Utf8.{scalar}
use Rattle.x5_model.specs.Words.{in_option, same_octets}
use Rattle.x5_model.specs.Normal.{is_printable, most_octets}
use Rattle.x5_model.proofs.Lists.{both_true, and_true}
use Rattle.x5_model_typed.specs.Nodes.{Node, Octets, Text}
use Rattle.x5_model_typed.specs.Named.{Value, Part, Rdn}
use Rattle.x5_model_typed.specs.Forms.{Primitive, Joined, Alternative, universal, ruled, any_node}
use Rattle.x5_model_typed.specs.Leaves.{where_so, is_length, text_where, text_of, is_numeric, is_seven_bit, cells, is_character, are_characters, universal_string, octet_string, oid, short_oid}
use Rattle.x5_model_typed.specs.Written.{can_hold}
use Rattle.x5_model_typed.specs.Layouts.{Surroundings, layout, printable, sequence_of}
use Rattle.x5_model_typed_laws.specs.Fits as fits
use Rattle.x5_model_typed_laws.specs.Fits.{Fits}
use Rattle.x5_model_typed_laws.specs.Said.{Closes}
use Rattle.x5_model_typed_laws.proofs.Leaves.{so, let_through}
use Rattle.x5_model_typed.specs.Rules.{is_text, text_rule}
use Rattle.x5_model_typed_laws.proofs.Closing.{any_keeps, held_by, leaf_closes, oid_is, oid_writes, octets_writes}

-- ---- characters

scalar_by : (c : ℕ) → is_character c ≡ true → scalar c ≡ true
scalar_by c h = by (nat_lt c 55296) refl h
  where
    by : (b : Bool) → nat_lt c 55296 ≡ b → (b || (nat_lt 57343 c && nat_lt c 1114112)) ≡ true → scalar c ≡ true
    by true e k = rw e refl
    by false e k =
        let w = both_true (nat_lt 57343 c) (nat_lt c 1114112) k in
        let low : 57343 < c = ltb-true 57343 c w.0 in
        let at : nat_le 57344 c ≡ true = le-leb 57344 c (omega arith) in
        rw (e, at, w.1) refl

scalars_by : (cs : List ℕ) → list_all is_character cs ≡ true → all_scalars cs ≡ true
scalars_by [] h = refl
scalars_by (c ∷ cs) h =
    let w = both_true (is_character c) (list_all is_character cs) h in ap₂ (λ (x y : Bool). x && y) (scalar_by c w.0)
    (scalars_by cs w.1)

encoded : (cs : List ℕ) → list_all is_character cs ≡ true → are_characters (encode_utf8_all cs) ≡ true
encoded cs h =
    let e : chars (encode_utf8_all cs) ≡ cs = chars-encodes cs (scalars_by cs h) in
    and_true (list_all is_character (chars (encode_utf8_all cs)))
    (same_octets (encode_utf8_all (chars (encode_utf8_all cs))) (encode_utf8_all cs))
    (ap (λ (l : List ℕ). list_all is_character l) e ∙ h)
    ((bytes_decides (encode_utf8_all (chars (encode_utf8_all cs))) (encode_utf8_all cs)).1 (ap encode_utf8_all e))

ascii_by : (t : List ℕ) → list_all is_seven_bit t ≡ true → IsAscii t
ascii_by [] h i = omega arith
ascii_by (b ∷ bs) h zero = ltb-true b 128 (both_true (is_seven_bit b) (list_all is_seven_bit bs) h).0
ascii_by (b ∷ bs) h (suc i) = ascii_by bs (both_true (is_seven_bit b) (list_all is_seven_bit bs) h).1 i

character_by : (t : List ℕ) → list_all is_seven_bit t ≡ true → list_all is_character t ≡ true
character_by [] h = refl
character_by (b ∷ bs) h =
    let w = both_true (is_seven_bit b) (list_all is_seven_bit bs) h in
    let less : b < 128 = ltb-true b 128 w.0 in
    let low : nat_lt b 55296 ≡ true = lt-ltb b 55296 (omega arith) in
    and_true (is_character b) (list_all is_character bs)
    (ap (λ (x : Bool). x || (nat_lt 57343 b && nat_lt b 1114112)) low) (character_by bs w.1)

seven_characters : (t : List ℕ) → list_all is_seven_bit t ≡ true → are_characters t ≡ true
seven_characters t h =
    let a = ascii_by t h in
    let c : chars t ≡ t = chars-IsAscii t a in
    and_true (list_all is_character (chars t)) (same_octets (encode_utf8_all (chars t)) t)
    (ap (λ (l : List ℕ). list_all is_character l) c ∙ character_by t h)
    ((bytes_decides (encode_utf8_all (chars t)) t).1 (ap encode_utf8_all c ∙ encodes-IsAscii t a))

numeric_small : (o : ℕ) → is_numeric o ≡ true → is_seven_bit o ≡ true
numeric_small o h = grind (arith, nat_tests)

numeric_seven : (t : List ℕ) → list_all is_numeric t ≡ true → list_all is_seven_bit t ≡ true
numeric_seven [] h = refl
numeric_seven (b ∷ bs) h =
    let w = both_true (is_numeric b) (list_all is_numeric bs) h in and_true (is_seven_bit b)
    (list_all is_seven_bit bs) (numeric_small b w.0) (numeric_seven bs w.1)

-- ---- what each kind of string says

record IsText (m : Node) : Type 0 where
  text : List ℕ
  is : Text text ≡ m
  characters : are_characters text ≡ true
  fits : is_length text ≡ true

text_said : (may_stand : ℕ → Bool) (m : Node) (octets : List ℕ)
    → (list_all may_stand octets ≡ true → are_characters octets ≡ true)
    → where_so (text_of may_stand octets) (Text octets) ≡ Some m → IsText m
text_said may_stand m octets f h =
    let w = so (text_of may_stand octets) (Text octets) m h in
    let v = both_true (list_all may_stand octets) (is_length octets) w.0 in
    record { text = octets; is = w.1; characters = f v.0; fits = v.1 }

universal_said : (m : Node) (o : Option (List ℕ)) → in_option None
    (λ cs. where_so (list_all is_character cs && is_length (encode_utf8_all cs)) (Text (encode_utf8_all cs))) o ≡
    Some m → IsText m
universal_said m None h = absurd (cc h)
universal_said m (Some cs) h =
    let w = so (list_all is_character cs && is_length (encode_utf8_all cs)) (Text (encode_utf8_all cs)) m h in
    let v = both_true (list_all is_character cs) (is_length (encode_utf8_all cs)) w.0 in
    record { text = encode_utf8_all cs; is = w.1; characters = encoded cs v.0; fits = v.1 }

-- ---- values

value_printable : (w : Surroundings) (t : List ℕ) → text_of is_printable t ≡ true
    → Fits (layout w) (layout w Value) (Text t)
value_printable w t e = fits.whole printable t refl (rw e refl) refl (let_through (text_of is_printable t) t e) refl

value_text : (w : Surroundings) (t : List ℕ) → are_characters t ≡ true → is_length t ≡ true
    → Fits (layout w) (layout w Value) (Text t)
value_text w t c l = by (text_of is_printable t) refl
  where
    fine : (are_characters t && is_length t) ≡ true
    fine = and_true (are_characters t) (is_length t) c l

    by : (b : Bool) → text_of is_printable t ≡ b → Fits (layout w) (layout w Value) (Text t)
    by true e = value_printable w t e
    by false e = fits.whole (universal 28 (Joined universal_string)) (flat_map (to_be_bytes w32) (chars t)) refl
        (rw (e, fine) refl) refl (let_through (are_characters t && is_length t)
        (flat_map (to_be_bytes w32) (chars t)) fine) refl

part_printable : (w : Surroundings) (t : List ℕ) → text_of is_printable t ≡ true
    → Fits (layout w) (layout w Part) (Text t)
part_printable w t e = fits.whole printable t refl (rw e refl) refl (let_through (text_of is_printable t) t e) refl

part_text : (w : Surroundings) (t : List ℕ) → are_characters t ≡ true → is_length t ≡ true
    → Fits (layout w) (layout w Part) (Text t)
part_text w t c l = by (text_of is_printable t) refl
  where
    fine : (are_characters t && is_length t) ≡ true
    fine = and_true (are_characters t) (is_length t) c l

    by : (b : Bool) → text_of is_printable t ≡ b → Fits (layout w) (layout w Part) (Text t)
    by true e = part_printable w t e
    by false e = fits.whole (universal 28 (Joined universal_string)) (flat_map (to_be_bytes w32) (chars t)) refl
        (rw (e, fine) refl) refl (let_through (are_characters t && is_length t)
        (flat_map (to_be_bytes w32) (chars t)) fine) refl

-- ---- each kind of string is written as the first that holds the text

kept_text : (P : Node → Type 0) (m n : Node) → any_node m ≡ Some n → P m → P n
kept_text P m n h p = subst P (sym (any_keeps m n h)) p

value_of : (w : Surroundings) (m : Node) → IsText m → Fits (layout w) (layout w Value) m
value_of w m i = subst (λ (x : Node). Fits (layout w) (layout w Value) x) i.is (value_text w i.text i.characters i.fits)

part_of : (w : Surroundings) (m : Node) → IsText m → Fits (layout w) (layout w Part) m
part_of w m i = subst (λ (x : Node). Fits (layout w) (layout w Part) x) i.is (part_text w i.text i.characters i.fits)

numeric_said : (m : Node) → (octets : List ℕ) → where_so (text_of is_numeric octets) (Text octets) ≡ Some m → IsText m
numeric_said m octets h = text_said is_numeric m octets (λ e. seven_characters octets (numeric_seven octets e)) h

seven_said : (m : Node) → (octets : List ℕ) → where_so (text_of is_seven_bit octets) (Text octets) ≡ Some m → IsText m
seven_said m octets h = text_said is_seven_bit m octets (seven_characters octets) h

pub printable_value_closes : (w : Surroundings) → Closes (layout w) (layout w Value) printable
printable_value_closes w m n (octets, h) rule =
    let v = so (text_of is_printable octets) (Text octets) m h in
    kept_text (Fits (layout w) (layout w Value)) m n rule
    (subst (λ (x : Node). Fits (layout w) (layout w Value) x) v.1 (value_printable w octets v.0))

pub printable_part_closes : (w : Surroundings) → Closes (layout w) (layout w Part) printable
printable_part_closes w m n (octets, h) rule =
    let v = so (text_of is_printable octets) (Text octets) m h in
    kept_text (Fits (layout w) (layout w Part)) m n rule
    (subst (λ (x : Node). Fits (layout w) (layout w Part) x) v.1 (part_printable w octets v.0))

pub universal_value_closes : (w : Surroundings) → Closes (layout w) (layout w Value)
    (universal 28 (Joined universal_string))
universal_value_closes w m n (octets, h) rule =
    kept_text (Fits (layout w) (layout w Value)) m n rule (value_of w m (universal_said m (cells octets) h))

pub universal_part_closes : (w : Surroundings) → Closes (layout w) (layout w Part)
    (universal 28 (Joined universal_string))
universal_part_closes w m n (octets, h) rule =
    kept_text (Fits (layout w) (layout w Part)) m n rule (part_of w m (universal_said m (cells octets) h))

pub numeric_value_closes : (w : Surroundings)
    → Closes (layout w) (layout w Value) (universal 18 (Joined (text_where (text_of is_numeric))))
numeric_value_closes w m n (octets, h) rule =
    kept_text (Fits (layout w) (layout w Value)) m n rule (value_of w m (numeric_said m octets h))

pub numeric_part_closes : (w : Surroundings)
    → Closes (layout w) (layout w Part) (universal 18 (Joined (text_where (text_of is_numeric))))
numeric_part_closes w m n (octets, h) rule =
    kept_text (Fits (layout w) (layout w Part)) m n rule (part_of w m (numeric_said m octets h))

pub seven_value_closes : (w : Surroundings)
    → Closes (layout w) (layout w Value) (universal 22 (Joined (text_where (text_of is_seven_bit))))
seven_value_closes w m n (octets, h) rule =
    kept_text (Fits (layout w) (layout w Value)) m n rule (value_of w m (seven_said m octets h))

pub seven_part_closes : (w : Surroundings)
    → Closes (layout w) (layout w Part) (universal 22 (Joined (text_where (text_of is_seven_bit))))
seven_part_closes w m n (octets, h) rule =
    kept_text (Fits (layout w) (layout w Part)) m n rule (part_of w m (seven_said m octets h))

-- ---- values that are no texts

pub oid_value_closes : (w : Surroundings) → Closes (layout w) (layout w Value) (universal 6 (Primitive (oid short_oid)))
oid_value_closes w =
    leaf_closes (layout w) (layout w Value) (universal 6 (Primitive (oid short_oid))) refl any_keeps
    (oid_writes short_oid)
    (λ m said. ap (λ (b : Bool). cond b (Some (universal 6 (Primitive (oid short_oid)))) (find (can_hold m) (others w)))
    (held_by (universal 6 (Primitive (oid short_oid))) m (oid_writes short_oid (layout w) m said)))
  where
    others : Surroundings → List Alternative
    others v = behind (layout v Value)
      where
        behind : List Alternative → List Alternative
        behind [] = []
        behind (a ∷ rest) = rest

pub octets_value_closes : (w : Surroundings) → Closes (layout w) (layout w Value) (universal 4 (Joined octet_string))
octets_value_closes w =
    leaf_closes (layout w) (layout w Value) (universal 4 (Joined octet_string)) refl any_keeps octets_writes
    (λ m said. (let v = so (nat_le (length said.0) most_octets) (Octets said.0) m said.1 in
    subst (λ (x : Node). find (can_hold x) (layout w Value) ≡ Some (universal 4 (Joined octet_string))) v.1
    (octets_found w said.0 v.0)))
  where
    octets_found : (v : Surroundings) (os : List ℕ) → nat_le (length os) most_octets ≡ true
        → find (can_hold (Octets os)) (layout v Value) ≡ Some (universal 4 (Joined octet_string))
    octets_found v os e = rw e refl

-- ---- a part is a text, so nothing else closes

no_text : (m n : Node) → is_text m ≡ false → text_rule m ≡ Some n → ⊥
no_text m n e h =
    let t : is_text m ≡ true = (so (is_text m) m n h).0 in cc

pub oid_part_closes : (w : Surroundings)
    → Closes (layout w) (layout w Part) (ruled text_rule (universal 6 (Primitive (oid short_oid))))
oid_part_closes w m n (octets, eights, h) rule =
    absurd (no_text m n (ap is_text (sym (oid_is short_oid octets m h).1)) rule)

pub octets_part_closes : (w : Surroundings)
    → Closes (layout w) (layout w Part) (ruled text_rule (universal 4 (Joined octet_string)))
octets_part_closes w m n (octets, h) rule =
    absurd (no_text m n (ap is_text (sym (so (nat_le (length octets) most_octets) (Octets octets) m h).1)) rule)

pub name_part_closes : (w : Surroundings)
    → Closes (layout w) (layout w Part) (ruled text_rule (sequence_of Rdn))
name_part_closes w m n (ns, is_many, inside) rule = absurd (no_text m n (ap is_text is_many) rule)
