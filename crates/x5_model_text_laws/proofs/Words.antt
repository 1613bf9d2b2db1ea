-- What is printed is one word, and UTF-8.
use Rattle.std.proofs.Common.{◌≡◌, ℕ, ◌/◌, ◌%◌, ◌<◌, true, ◌&&◌, ◌==◌, not, if◌then◌else◌, nat_lt, List, [], ◌∷◌, length, flat_map, refl, ap, ap₂, ◌∙◌, inl, inr, arith}
use Rattle.std.proofs.lemmas.Bool.{cases_Bool, agree_below_at, and_parts, not_from_false, or_left}
use Rattle.std.proofs.lemmas.List.Folds.{list_all-append}
use Rattle.std.proofs.lemmas.Str.{IsUtf8-from_is_utf8, is_utf8-from_IsUtf8}
use Rattle.std.specs.Char.{digit_char}
use Rattle.std.specs.List.{list_all}
use Rattle.std.specs.Str.{is_utf8}
use Rattle.x5_model.specs.Values.{Text, NameValue, Value, TextValue, OctetsValue, OidValue, NameOf}
use Rattle.x5_model.specs.Types.{Kind, kind_of, may_name}
use Rattle.x5_model.specs.Normal.{is_oid, is_text_of_kind, is_pair, is_rdn, is_name, ascends}
use Rattle.x5_model_text.proofs.EscapeLaws.{IsUtf8-escaped}
use Rattle.hex.specs.Hex.{encode_lower}
use Rattle.x5_model_text.specs.TypeText.{keyword_of, text_of_oid}
use Rattle.x5_model_text.specs.ValueText.{backslash, is_escaped, escaped_octet, escaped}
use Rattle.x5_model_text.specs.NameText.{plus, equals, text_of_pair, text_of_pairs, slash_and_pairs, text_of_written, text_of_value}
use Rattle.x5_model_text_laws.specs.Given.{are_utf8, IsGivenName, IsGiven, is_printed, is_printed_in_name}
use Rattle.x5_model_text_laws.proofs.Keywords.{keyword}
use Rattle.x5_model_text_laws.proofs.NameUtf8.{name_utf8}
use Rattle.x5_model_text_laws.proofs.Octets.{encoded_plain}
use Rattle.x5_model_text_laws.proofs.Oids.{arcs_of_oid, oid_plain}
use Rattle.x5_model_text_laws.proofs.Plain.{is_plain, one_plain, plain_utf8}
use Rattle.x5_model_text_laws.proofs.Sorting.{Pairs}
use Rattle.x5_model_text_laws.proofs.Utf8.{AreOctets, utf8_octets}

-- ---- values

digit_printed : (d : ℕ) → d < 16 → is_printed (digit_char d) ≡ true
digit_printed d h = agree_below_at (λ n. is_printed (digit_char n)) (λ n. true) 16 d refl h

octet_printed : (b : ℕ) → b < 256 → list_all is_printed (escaped_octet b) ≡ true
octet_printed b small =
    let high : b / 16 < 16 = omega arith in
    let low : b % 16 < 16 = omega arith in
    elim (cases_Bool (is_escaped b)) [
      | inl e ↦ ap (λ t. list_all is_printed (if t then backslash ∷ digit_char (b / 16) ∷ digit_char (b % 16) ∷ [] else b ∷ [])) e
          ∙ ap₂ ◌&&◌ (digit_printed (b / 16) high) (ap (λ t. t && true) (digit_printed (b % 16) low))
      | inr e ↦ ap (λ t. list_all is_printed (if t then backslash ∷ digit_char (b / 16) ∷ digit_char (b % 16) ∷ [] else b ∷ [])) e
          ∙ ap (λ t. t && true) (or_left (not (is_escaped b)) (b == backslash) (not_from_false (is_escaped b) e))
    ]

escaped_printed : (t : Text) → AreOctets t → list_all is_printed (escaped t) ≡ true
escaped_printed [] h = refl
escaped_printed (b ∷ t) h = list_all-append is_printed (escaped_octet b) (escaped t) ∙ ap₂ ◌&&◌ (octet_printed b h.0) (escaped_printed t h.1)

plain_printed : (t : Text) → list_all is_plain t ≡ true → list_all is_printed t ≡ true
plain_printed [] h = refl
plain_printed (b ∷ t) h =
    let parts = and_parts (is_plain b) (list_all is_plain t) h in
    ap₂ ◌&&◌ (or_left (not (is_escaped b)) (b == backslash) (not_from_false (is_escaped b) (one_plain b parts.0).1)) (plain_printed t parts.1)

pub oid_text_plain : (arcs : List ℕ) → is_oid arcs ≡ true → list_all is_plain (text_of_oid arcs) ≡ true
oid_text_plain [] h = cc
oid_text_plain (a ∷ []) h = cc
oid_text_plain (a ∷ b ∷ arcs) h = oid_plain a (b ∷ arcs) (arcs_of_oid a b arcs h)

pub value_word : (k : Kind) (v : Value) → IsGiven k v → list_all is_printed (text_of_value v) ≡ true
value_word k (TextValue t) h = escaped_printed t (utf8_octets t h.utf8)
value_word k (OctetsValue bs) h = plain_printed (encode_lower bs) (encoded_plain bs h.octets)
value_word k (OidValue arcs) h = plain_printed (text_of_oid arcs) (oid_text_plain arcs h.valid)
value_word k (NameOf n) h = escaped_printed (text_of_written n) (utf8_octets (text_of_written n) (name_utf8 n h.1))

escaped_utf8 : (t : Text) → is_utf8 t ≡ true → is_utf8 (escaped t) ≡ true
escaped_utf8 t h = is_utf8-from_IsUtf8 (escaped t) (IsUtf8-escaped t (IsUtf8-from_is_utf8 t h))

pub value_utf8 : (k : Kind) (v : Value) → IsGiven k v → is_utf8 (text_of_value v) ≡ true
value_utf8 k (TextValue t) h = escaped_utf8 t h.utf8
value_utf8 k (OctetsValue bs) h = plain_utf8 (encode_lower bs) (encoded_plain bs h.octets)
value_utf8 k (OidValue arcs) h = plain_utf8 (text_of_oid arcs) (oid_text_plain arcs h.valid)
value_utf8 k (NameOf n) h = escaped_utf8 (text_of_written n) (name_utf8 n h.1)

-- ---- names

in_name : (t : Text) → list_all is_printed t ≡ true → list_all is_printed_in_name t ≡ true
in_name [] h = refl
in_name (b ∷ t) h =
    let parts = and_parts (is_printed b) (list_all is_printed t) h in
    ap₂ ◌&&◌ (or_left (is_printed b) _ parts.0) (in_name t parts.1)

pair_word : (p : ℕ × Text) → is_pair p ≡ true → is_utf8 p.1 ≡ true → list_all is_printed_in_name (text_of_pair p) ≡ true
pair_word p h utf8 =
    let may = (and_parts (may_name p.0) (is_text_of_kind (kind_of p.0) p.1) h).0 in
    list_all-append is_printed_in_name (keyword_of p.0) (equals ∷ escaped p.1)
    ∙ ap₂ ◌&&◌ (in_name (keyword_of p.0) (plain_printed (keyword_of p.0) (keyword p.0 may).plain)) (in_name (escaped p.1) (escaped_printed p.1 (utf8_octets p.1 utf8)))

pairs_word : (r : Pairs) → list_all is_pair r ≡ true → are_utf8 r ≡ true → list_all is_printed_in_name (text_of_pairs r) ≡ true
pairs_word [] h utf8 = refl
pairs_word (p ∷ []) h utf8 = pair_word p (and_parts (is_pair p) true h).0 (and_parts (is_utf8 p.1) true utf8).0
pairs_word (p ∷ q ∷ r) h utf8 =
    let a = and_parts (is_pair p) (list_all is_pair (q ∷ r)) h in
    let u = and_parts (is_utf8 p.1) (are_utf8 (q ∷ r)) utf8 in
    list_all-append is_printed_in_name (text_of_pair p) (plus ∷ text_of_pairs (q ∷ r))
    ∙ ap₂ ◌&&◌ (pair_word p a.0 u.0) (pairs_word (q ∷ r) a.1 u.1)

rdns_word : (n : NameValue) → is_name n ≡ true → list_all are_utf8 n ≡ true → list_all is_printed_in_name (flat_map slash_and_pairs n) ≡ true
rdns_word [] h utf8 = refl
rdns_word (r ∷ n) h utf8 =
    let v = and_parts (is_rdn r) (is_name n) h in
    let u = and_parts (are_utf8 r) (list_all are_utf8 n) utf8 in
    let outer = and_parts (nat_lt 0 (length r) && list_all is_pair r) (ascends r) v.0 in
    let pairs = (and_parts (nat_lt 0 (length r)) (list_all is_pair r) outer.0).1 in
    list_all-append is_printed_in_name (text_of_pairs r) (flat_map slash_and_pairs n)
    ∙ ap₂ ◌&&◌ (pairs_word r pairs u.0) (rdns_word n v.1 u.1)

pub name_word : (n : NameValue) → IsGivenName n → list_all is_printed_in_name (text_of_written n) ≡ true
name_word [] h = refl
name_word (r ∷ n) h = rdns_word (r ∷ n) h.valid h.utf8
