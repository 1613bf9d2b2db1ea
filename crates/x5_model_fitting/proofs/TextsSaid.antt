-- What octets say of texts and types is within the limits: each kind of string holds UTF-8 of so many octets.
use Rattle.std.proofs.Common.{◌≡◌, ℕ, zero, suc, ◌<◌, Bool, true, false, ◌&&◌, ◌||◌, ◌==◌, if◌then◌else◌, nat_lt, nat_le, List, [], ◌∷◌, length, refl, ap, ap₂, subst, arith}
use Rattle.std.specs.Prelude.{chars, encode_utf8_all}
use Rattle.std.proofs.lemmas.Bool.{lt-ltb, ltb-true, le-leb, leb-true}
use Rattle.std.proofs.lemmas.Bool.Decides.{nat_tests}
use Rattle.std.proofs.lemmas.Str.{encodes-IsAscii, is_utf8-from_IsUtf8}
use Rattle.std.specs.Cmp.Lexicographic.{bytes_decides}
use Rattle.std.specs.List.{list_all}
use Rattle.std.specs.Str.{IsAscii, is_utf8, all_scalars}
use Rattle.std.specs.declared.option.Option.{Option}
use Rattle.std.specs.declared.option.Option.TheVariants.{None, Some}
use lib.Utf8.{scalar}
use Rattle.x5_model.specs.Words.{same_octets}
use Rattle.x5_model.specs.Values.{Text}
use Rattle.x5_model.specs.Types.{is_known, in_table}
use Rattle.x5_model.specs.Normal.{is_oid, is_printable, most_octets}
use Rattle.x5_model.proofs.Lists.{both_true, and_true}
use Rattle.x5_model_text.specs.TypeText.{known_below, type_or}
use Rattle.x5_model_typed.specs.Nodes as nodes
use Rattle.x5_model_typed.specs.Nodes.{Node, Vacant, Flag, Number, Oid, Bits, Octets, Chosen, Many}
use Rattle.x5_model_typed.specs.Named as named
use Rattle.x5_model_typed.specs.Forms.{Primitive, universal}
use Rattle.x5_model_typed.specs.Leaves.{is_length, text_of, is_numeric, is_seven_bit, is_character, are_characters, oid, any_oid, oid_octets}
use Rattle.x5_model_typed.specs.Layouts.{Surroundings, layout}
use Rattle.x5_model_typed_laws.specs.Fits.{Fits, whole}
use Rattle.x5_model_typed_laws.proofs.Leaves.{so}
use Rattle.x5_model_messages.specs.Terms.{type_in}
use Rattle.x5_model_fitting.specs.Names.{TextWithin}
use Rattle.x5_model_fitting.specs.Terms.{TypeWithin}
use Rattle.x5_model_fitting.proofs.Taking.{only_leaf}
use Rattle.x5_model_fitting.proofs.Texts.{known_within}

-- ---- characters

scalar_by : (c : ℕ) → is_character c ≡ true → scalar c ≡ true
scalar_by c h = by (nat_lt c 55296) refl h
  where
    by : (b : Bool) → nat_lt c 55296 ≡ b → (b || (nat_lt 57343 c && nat_lt c 1114112)) ≡ true → scalar c ≡ true
    by true e k = rw e refl
    by false e k =
        let w = both_true (nat_lt 57343 c) (nat_lt c 1114112) k in
        let low : 57343 < c = ltb-true 57343 c w.0 in
        let at : nat_le 57344 c ≡ true = le-leb 57344 c (omega arith) in
        rw (e, at, w.1) refl

scalars_by : (cs : List ℕ) → list_all is_character cs ≡ true → all_scalars cs ≡ true
scalars_by [] h = refl
scalars_by (c ∷ cs) h =
    let w = both_true (is_character c) (list_all is_character cs) h in
    ap₂ (λ (x y : Bool). x && y) (scalar_by c w.0) (scalars_by cs w.1)

utf8_of : (t : Text) → are_characters t ≡ true → is_utf8 t ≡ true
utf8_of t h =
    let w = both_true (list_all is_character (chars t)) (same_octets (encode_utf8_all (chars t)) t) h in
    is_utf8-from_IsUtf8 t (chars t, (scalars_by (chars t) w.0, (bytes_decides (encode_utf8_all (chars t)) t).0 w.1))

ascii_by : (t : Text) → list_all is_seven_bit t ≡ true → IsAscii t
ascii_by [] h i = omega arith
ascii_by (b ∷ bs) h zero = ltb-true b 128 (both_true (is_seven_bit b) (list_all is_seven_bit bs) h).0
ascii_by (b ∷ bs) h (suc i) = ascii_by bs (both_true (is_seven_bit b) (list_all is_seven_bit bs) h).1 i

character_by : (t : Text) → list_all is_seven_bit t ≡ true → list_all is_character t ≡ true
character_by [] h = refl
character_by (b ∷ bs) h =
    let w = both_true (is_seven_bit b) (list_all is_seven_bit bs) h in
    let less : b < 128 = ltb-true b 128 w.0 in
    let low : nat_lt b 55296 ≡ true = lt-ltb b 55296 (omega arith) in
    and_true (is_character b) (list_all is_character bs)
    (ap (λ (x : Bool). x || (nat_lt 57343 b && nat_lt b 1114112)) low) (character_by bs w.1)

seven_utf8 : (t : Text) → list_all is_seven_bit t ≡ true → is_utf8 t ≡ true
seven_utf8 t h =
    let a = ascii_by t h in is_utf8-from_IsUtf8 t (t, (scalars_by t (character_by t h), encodes-IsAscii t a))

numeric_small : (o : ℕ) → is_numeric o ≡ true → is_seven_bit o ≡ true
numeric_small o h = grind (arith, nat_tests)

printable_small : (o : ℕ) → is_printable o ≡ true → is_seven_bit o ≡ true
printable_small o h = grind (arith, nat_tests)

all_small : (q : ℕ → Bool) → ((o : ℕ) → q o ≡ true → is_seven_bit o ≡ true) → (t : Text) → list_all q t ≡ true
    → list_all is_seven_bit t ≡ true
all_small q of [] h = refl
all_small q of (b ∷ bs) h =
    let w = both_true (q b) (list_all q bs) h in
    and_true (is_seven_bit b) (list_all is_seven_bit bs) (of b w.0) (all_small q of bs w.1)

-- ---- texts

abbrev is_fine : Text → Bool
is_fine t = is_utf8 t && is_length t

fine_within : (t : Text) → is_fine t ≡ true → TextWithin t
fine_within t h =
    let w = both_true (is_utf8 t) (is_length t) h in
    let v = both_true (nat_lt 0 (length t)) (nat_le (length t) most_octets) w.1 in
    record { utf8 = w.0; some = ltb-true 0 (length t) v.0; short = leb-true (length t) most_octets v.1 }

fine_by : (q : ℕ → Bool) → ((o : ℕ) → q o ≡ true → is_seven_bit o ≡ true) → (t : Text) → text_of q t ≡ true
    → is_fine t ≡ true
fine_by q of t h =
    let w = both_true (list_all q t) (is_length t) h in
    and_true (is_utf8 t) (is_length t) (seven_utf8 t (all_small q of t w.0)) w.1

fine_universal : (t : Text) → (are_characters t && is_length t) ≡ true → is_fine t ≡ true
fine_universal t h =
    let w = both_true (are_characters t) (is_length t) h in and_true (is_utf8 t) (is_length t) (utf8_of t w.0) w.1

not_so : (b c : Bool) → (b ≡ true → c ≡ true) → c ≡ false → b ≡ false
not_so true c of e = let t : c ≡ true = of refl in absurd (cc (t, e))
not_so false c of e = refl

-- of a text that isn't fine no kind of string is
module _ (t : Text) (e : is_fine t ≡ false) where
  not_printable : text_of is_printable t ≡ false
  not_printable = not_so (text_of is_printable t) (is_fine t) (fine_by is_printable printable_small t) e

  not_universal : (are_characters t && is_length t) ≡ false
  not_universal = not_so (are_characters t && is_length t) (is_fine t) (fine_universal t) e

  not_numeric : text_of is_numeric t ≡ false
  not_numeric = not_so (text_of is_numeric t) (is_fine t) (fine_by is_numeric numeric_small t) e

  not_seven : text_of is_seven_bit t ≡ false
  not_seven = not_so (text_of is_seven_bit t) (is_fine t) (fine_by is_seven_bit (λ o h. h) t) e

pub text_said : (w : Surroundings) (t : Text) → Fits (layout w) (layout w named.Value) (nodes.Text t) → TextWithin t
text_said w t (whole a octets free held unmarked writes settles) = by (is_fine t) refl
  where
    by : (b : Bool) → is_fine t ≡ b → TextWithin t
    by true e = fine_within t e
    by false e =
        let nothing : None ≡ Some a = rw (not_printable t e, not_universal t e, not_numeric t e, not_seven t e) at held
        in
        absurd (cc nothing)

pub part_said : (w : Surroundings) (t : Text) → Fits (layout w) (layout w named.Part) (nodes.Text t) → TextWithin t
part_said w t (whole a octets free held unmarked writes settles) = by (is_fine t) refl
  where
    by : (b : Bool) → is_fine t ≡ b → TextWithin t
    by true e = fine_within t e
    by false e =
        let nothing : None ≡ Some a = rw (not_printable t e, not_universal t e, not_numeric t e, not_seven t e) at held
        in
        absurd (cc nothing)

-- ---- types

parts_known : (a b c d : Bool) (n k : ℕ) → (if a && b && c && d then Some n else None) ≡ Some k
    → (a && (b && (c && d))) ≡ true
parts_known true true true true n k h = refl
parts_known true true true false n k h = absurd (cc h)
parts_known true true false d n k h = absurd (cc h)
parts_known true false c d n k h = absurd (cc h)
parts_known false b c d n k h = absurd (cc h)

some_number : (b : Bool) (n k : ℕ) → (if b then Some n else None) ≡ Some k → n ≡ k
some_number true n k h = cc
some_number false n k h = absurd (cc h)

known_by : (arcs : List ℕ) (k : ℕ) → known_below arcs ≡ Some k → is_known k ≡ true
known_by [] k h = absurd (cc h)
known_by (a ∷ []) k h = absurd (cc h)
known_by (a ∷ b ∷ []) k h = absurd (cc h)
known_by (a ∷ b ∷ c ∷ []) k h = absurd (cc h)
known_by (a ∷ b ∷ c ∷ n ∷ []) k h =
    let all : ((a == 2) && ((b == 5) && ((c == 4) && is_known n))) ≡ true =
    parts_known (a == 2) (b == 5) (c == 4) (is_known n) n k h in
    let u = both_true (a == 2) ((b == 5) && ((c == 4) && is_known n)) all in
    let v = both_true (b == 5) ((c == 4) && is_known n) u.1 in
    let w = both_true (c == 4) (is_known n) v.1 in
    subst (λ (m : ℕ). is_known m ≡ true) (some_number ((a == 2) && (b == 5) && (c == 4) && is_known n) n k h) w.1
known_by (a ∷ b ∷ c ∷ n ∷ m ∷ arcs) k h = absurd (cc h)

parts_unknown : (a b c d : Bool) (n : ℕ) → (if a && b && c && d then Some n else None) ≡ None
    → (a && (b && (c && d))) ≡ false
parts_unknown true true true true n h = absurd (cc h)
parts_unknown true true true false n h = refl
parts_unknown true true false d n h = refl
parts_unknown true false c d n h = refl
parts_unknown false b c d n h = refl

unknown_by : (arcs : List ℕ) → known_below arcs ≡ None → in_table arcs ≡ false
unknown_by [] h = refl
unknown_by (a ∷ []) h = refl
unknown_by (a ∷ b ∷ []) h = refl
unknown_by (a ∷ b ∷ c ∷ []) h = refl
unknown_by (a ∷ b ∷ c ∷ n ∷ []) h = parts_unknown (a == 2) (b == 5) (c == 4) (is_known n) n h
unknown_by (a ∷ b ∷ c ∷ n ∷ m ∷ arcs) h = refl

arcs_within : (arcs : List ℕ) (o : Option ℕ) → known_below arcs ≡ o → is_oid arcs ≡ true → TypeWithin (type_or arcs o)
arcs_within arcs None e h = record { is = ap Rattle.std.proofs.Common.not (unknown_by arcs e); oid = h }
arcs_within arcs (Some k) e h = known_within k (known_by arcs k e)

type_writes : (n : Node) (octets : List ℕ) → (oid any_oid).writes n ≡ Some octets → TypeWithin (type_in n)
type_writes (Oid arcs) octets h =
    arcs_within arcs (known_below arcs) refl (both_true (is_oid arcs) true
    (so (is_oid arcs && true) (oid_octets arcs) octets h).0).0
type_writes Vacant octets h = absurd (cc h)
type_writes (Flag b) octets h = absurd (cc h)
type_writes (Number k) octets h = absurd (cc h)
type_writes (Bits b) octets h = absurd (cc h)
type_writes (Octets o) octets h = absurd (cc h)
type_writes (nodes.Text t) octets h = absurd (cc h)
type_writes (Chosen tag n) octets h = absurd (cc h)
type_writes (Many ns) octets h = absurd (cc h)

pub type_said : (w : Surroundings) (n : Node) → Fits (layout w) (layout w named.AnyOid) n → TypeWithin (type_in n)
type_said w n f =
    let v = only_leaf (layout w) (universal 6 (Primitive (oid any_oid))) n refl refl f in type_writes n v.0 v.1
