-- The text of a given name is UTF-8, so it can be a value.
use Rattle.std.proofs.Common.{◌≡◌, ℕ, ◌<◌, true, ◌&&◌, nat_lt, [], ◌∷◌, ◌++◌, length, flat_map, IsUtf8, lit<, arith}
use Rattle.std.proofs.lemmas.Bool.{and_parts}
use Rattle.std.proofs.lemmas.Str.{IsUtf8-append, IsUtf8-nil, IsUtf8-from_ascii, IsUtf8-from_is_utf8, is_utf8-from_IsUtf8}
use Rattle.std.proofs.lemmas.Str.Ascii.{IsAscii-nil, IsAscii-cons}
use Rattle.std.specs.List.{list_all}
use Rattle.std.specs.Str.{is_utf8}
use Rattle.x5_model.specs.Values.{Text, NameValue}
use Rattle.x5_model.specs.Types.{kind_of, may_name}
use Rattle.x5_model.specs.Normal.{is_text_of_kind, is_pair, is_rdn, is_name, ascends}
use Rattle.x5_model_text.proofs.EscapeLaws.{IsUtf8-escaped}
use Rattle.x5_model_text.specs.TypeText.{keyword_of}
use Rattle.x5_model_text.specs.ValueText.{escaped}
use Rattle.x5_model_text.specs.NameText.{slash, plus, equals, text_of_pair, text_of_pairs, slash_and_pairs, text_of_written}
use Rattle.x5_model_text_laws.specs.Given.{are_utf8, IsGivenName}
use Rattle.x5_model_text_laws.proofs.Keywords.{keyword}
use Rattle.x5_model_text_laws.proofs.Plain.{plain_ascii}
use Rattle.x5_model_text_laws.proofs.Sorting.{Pairs}

octet_then : (b : ℕ) (t : Text) → b < 128 → IsUtf8 t → IsUtf8 (b ∷ t)
octet_then b t low h = IsUtf8-append (b ∷ []) t (IsUtf8-from_ascii (b ∷ []) (IsAscii-cons b [] low IsAscii-nil)) h

pair_utf8 : (p : ℕ × Text) → is_pair p ≡ true → is_utf8 p.1 ≡ true → IsUtf8 (text_of_pair p)
pair_utf8 p h utf8 =
    let may = (and_parts (may_name p.0) (is_text_of_kind (kind_of p.0) p.1) h).0 in
    IsUtf8-append (keyword_of p.0) (equals ∷ escaped p.1) (IsUtf8-from_ascii (keyword_of p.0) (plain_ascii (keyword_of p.0) (keyword p.0 may).plain))
    (octet_then equals (escaped p.1) (lit< tt) (IsUtf8-escaped p.1 (IsUtf8-from_is_utf8 p.1 utf8)))

pairs_utf8 : (r : Pairs) → list_all is_pair r ≡ true → are_utf8 r ≡ true → IsUtf8 (text_of_pairs r)
pairs_utf8 [] h utf8 = IsUtf8-nil
pairs_utf8 (p ∷ []) h utf8 = pair_utf8 p (and_parts (is_pair p) true h).0 (and_parts (is_utf8 p.1) true utf8).0
pairs_utf8 (p ∷ q ∷ r) h utf8 =
    let a = and_parts (is_pair p) (list_all is_pair (q ∷ r)) h in
    let u = and_parts (is_utf8 p.1) (are_utf8 (q ∷ r)) utf8 in
    IsUtf8-append (text_of_pair p) (plus ∷ text_of_pairs (q ∷ r)) (pair_utf8 p a.0 u.0) (octet_then plus (text_of_pairs (q ∷ r)) (lit< tt) (pairs_utf8 (q ∷ r) a.1 u.1))

rdns_utf8 : (n : NameValue) → is_name n ≡ true → list_all are_utf8 n ≡ true → IsUtf8 (flat_map slash_and_pairs n)
rdns_utf8 [] h utf8 = IsUtf8-nil
rdns_utf8 (r ∷ n) h utf8 =
    let v = and_parts (is_rdn r) (is_name n) h in
    let u = and_parts (are_utf8 r) (list_all are_utf8 n) utf8 in
    let outer = and_parts (nat_lt 0 (length r) && list_all is_pair r) (ascends r) v.0 in
    let pairs = (and_parts (nat_lt 0 (length r)) (list_all is_pair r) outer.0).1 in
    octet_then slash (text_of_pairs r ++ flat_map slash_and_pairs n) (lit< tt)
    (IsUtf8-append (text_of_pairs r) (flat_map slash_and_pairs n) (pairs_utf8 r pairs u.0) (rdns_utf8 n v.1 u.1))

written_utf8 : (n : NameValue) → is_name n ≡ true → list_all are_utf8 n ≡ true → IsUtf8 (text_of_written n)
written_utf8 [] h utf8 = octet_then slash [] (lit< tt) IsUtf8-nil
written_utf8 (r ∷ n) h utf8 = rdns_utf8 (r ∷ n) h utf8

pub name_utf8 : (n : NameValue) → IsGivenName n → is_utf8 (text_of_written n) ≡ true
name_utf8 n h = is_utf8-from_IsUtf8 (text_of_written n) (written_utf8 n h.valid h.utf8)

pub written_some : (n : NameValue) → 0 < length (text_of_written n)
written_some [] = lit< tt
written_some (r ∷ n) = omega arith
