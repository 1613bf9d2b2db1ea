-- A name's text reads as the name.
use Rattle.std.proofs.Common.{◌≡◌, ℕ, ◌+◌, ◌/◌, ◌%◌, ◌<◌, ◌≤◌, Bool, true, false, ◌&&◌, ◌==◌, not, if◌then◌else◌, cond, nat_lt, nat_le, [], ◌∷◌, ◌++◌, length, map, flat_map, Ok, Err, refl, sym, ap, ap₂, ◌∙◌, inl, inr, append_assoc, append-nil, length-append, drop, lit<, arith}
use Rattle.std.proofs.lemmas.Bool.{cases_Bool, cases_lt, both_ways, ne_eqb, and_parts, and_from, or_right, lt-ltb, leb-true, lt-leb, and_right, eq-eqb}
use Rattle.std.proofs.lemmas.Bool.Decides.{nat_tests}
use Rattle.std.proofs.lemmas.List.{take_at, drop_at, length_push}
use Rattle.std.proofs.lemmas.List.Folds.{list_all-append}
use Rattle.std.specs.Char.{digit_char}
use Rattle.std.specs.List.{list_all, before_first, after_first, position_or_len, slice_split}
use Rattle.std.specs.Str.{is_utf8}
use Rattle.x5_model.specs.Values.{Text, NameValue}
use Rattle.x5_model.specs.Types.{kind_of, may_name}
use Rattle.x5_model.specs.Normal.{is_text_of_kind, is_pair, is_rdn, is_name, ascends_from}
use Rattle.x5_model_text.specs.TypeText.{keyword_of}
use Rattle.x5_model_text.specs.ValueText.{backslash, is_escaped, escaped_octet, escaped}
use Rattle.x5_model_text.specs.NameText.{BadSpelling, TooManyRdns, TooManyPairs, RepeatedType, ◌>>=◌, slash, plus, equals, text_of_pair, text_of_pairs, slash_and_pairs, text_of_written, spelled, has_type, fits_text, fits_type, text_at, new_type, pair_cut, pair_at, pairs_at, rdn_at, rdns_at, behind_slash, written_name}
use Rattle.x5_model_text_laws.specs.Given.{are_utf8}
use Rattle.x5_model_text_laws.proofs.Escapes.{resolved_escaped}
use Rattle.x5_model_text_laws.proofs.Keywords.{Keyword, keyword, keyword_names}
use Rattle.x5_model_text_laws.proofs.Limits.{is_short, is_small}
use Rattle.x5_model_text_laws.proofs.Pieces.{is_free, cut_all, cut_first, cut_joined}
use Rattle.x5_model_text_laws.proofs.Sorting.{Pairs, are_below, below_later, below_absent, below_more}
use Rattle.x5_model_text_laws.proofs.Utf8.{utf8_octets}

-- ---- a text that is cut at the first of an octet

position_at : (c : ℕ) (k u : Text) → is_free c k ≡ true → position_or_len (λ b. b == c) (k ++ c ∷ u) ≡ length k
position_at c [] u h = ap (λ t. cond (not t) (1 + position_or_len (λ b. b == c) u) 0) (eq-eqb c c refl)
position_at c (b ∷ k) u h =
    let parts = and_parts (not (b == c)) (is_free c k) h in
    let rest = position_at c k u parts.1 in
    ap (λ t. cond t (1 + position_or_len (λ x. x == c) (k ++ c ∷ u)) 0) parts.0 ∙ omega (arith, rest)

before_at : (c : ℕ) (k u : Text) → is_free c k ≡ true → before_first (λ b. b == c) (k ++ c ∷ u) ≡ k
before_at c k u h = take_at k (c ∷ u) (position_or_len (λ b. b == c) (k ++ c ∷ u)) (sym (position_at c k u h))

after_at : (c : ℕ) (k u : Text) → is_free c k ≡ true → after_first (λ b. b == c) (k ++ c ∷ u) ≡ u
after_at c k u h =
    let place : length (k ++ c ∷ []) ≡ position_or_len (λ b. b == c) (k ++ c ∷ u) + 1 = length_push k c ∙ ap (λ n. n + 1) (sym (position_at c k u h)) in
    ap (λ t. drop (position_or_len (λ b. b == c) (k ++ c ∷ u) + 1) t) (sym (append_assoc k (c ∷ []) u)) ∙ drop_at (k ++ c ∷ []) u _ place

found_at : (c : ℕ) (k u : Text) → is_free c k ≡ true → nat_lt (position_or_len (λ b. b == c) (k ++ c ∷ u)) (length (k ++ c ∷ u)) ≡ true
found_at c k u h = let e = position_at c k u h in let l = length-append k (c ∷ u) in lt-ltb _ _ (omega (arith, e, l))

-- ---- a pair

record Fine (p : ℕ × Text) : Type 0 where
  pair : is_pair p ≡ true
  utf8 : is_utf8 p.1 ≡ true
  short : is_short p ≡ true

type_read : (before : Pairs) (p : ℕ × Text) → Fine p → has_type p.0 before ≡ false → new_type before (keyword_of p.0) ≡ Ok p.0
type_read before p h absent =
    let may = (and_parts (may_name p.0) (is_text_of_kind (kind_of p.0) p.1) h.pair).0 in
    ap (λ r. r >>= λ n. if has_type n before then Err RepeatedType else Ok n) (keyword_names p.0 may)
    ∙ ap (λ t. if t then Err RepeatedType else Ok p.0) absent

fitting : (limited : Bool) (p : ℕ × Text) → Fine p → fits_type limited p.0 p.1 ≡ true
fitting limited p h =
    let kind = (and_parts (may_name p.0) (is_text_of_kind (kind_of p.0) p.1) h.pair).1 in
    and_from (is_utf8 p.1) (fits_text limited p.0 p.1) h.utf8 (and_from (is_text_of_kind (kind_of p.0) p.1) _ kind (or_right (not limited) (nat_le (length p.1) 1024) h.short))

text_read : (limited : Bool) (at : ℕ) (p : ℕ × Text) → Fine p → text_at limited p.0 at (escaped p.1) ≡ Ok p.1
text_read limited at p h =
    ap (λ r. spelled r >>= λ u. if fits_type limited p.0 u then Ok u else Err (BadSpelling at)) (resolved_escaped at p.1 (utf8_octets p.1 h.utf8))
    ∙ ap (λ t. if t then Ok p.1 else Err (BadSpelling at)) (fitting limited p h)

pair_read : (limited : Bool) (at : ℕ) (before : Pairs) (p : ℕ × Text) → Fine p → has_type p.0 before ≡ false → pair_at limited at before (text_of_pair p) ≡ Ok p
pair_read limited at before p h absent =
    let may = (and_parts (may_name p.0) (is_text_of_kind (kind_of p.0) p.1) h.pair).0 in
    let free = (keyword p.0 may).no_equals in
    let t = text_of_pair p in
    let cut = position_or_len (λ b. b == equals) t in
    let type : new_type before (before_first (λ b. b == equals) t) ≡ Ok p.0 = ap (new_type before) (before_at equals (keyword_of p.0) (escaped p.1) free) ∙ type_read before p h absent in
    let value : text_at limited p.0 (at + cut + 1) (after_first (λ b. b == equals) t) ≡ Ok p.1 = ap (text_at limited p.0 (at + cut + 1)) (after_at equals (keyword_of p.0) (escaped p.1) free) ∙ text_read limited (at + cut + 1) p h in
    ap (λ b. if b then pair_cut limited at before t cut else Err (BadSpelling (at + length t))) (found_at equals (keyword_of p.0) (escaped p.1) free)
    ∙ ap (λ r. r >>= λ n. text_at limited n (at + cut + 1) (after_first (λ b. b == equals) t) >>= λ v. Ok (n, v)) type
    ∙ ap (λ r. r >>= λ v. Ok (p.0, v)) value

-- ---- an RDN

record FineRdn (r : Pairs) : Type 0 where
  pairs : list_all is_pair r ≡ true
  utf8 : are_utf8 r ≡ true
  texts : list_all is_short r ≡ true

first_fine : (p : ℕ × Text) (r : Pairs) → FineRdn (p ∷ r) → Fine p
first_fine p r h = record {
  pair = (and_parts (is_pair p) (list_all is_pair r) h.pairs).0;
  utf8 = (and_parts (is_utf8 p.1) (are_utf8 r) h.utf8).0;
  short = (and_parts (is_short p) (list_all is_short r) h.texts).0;
}

others_fine : (p : ℕ × Text) (r : Pairs) → FineRdn (p ∷ r) → FineRdn r
others_fine p r h = record {
  pairs = (and_parts (is_pair p) (list_all is_pair r) h.pairs).1;
  utf8 = (and_parts (is_utf8 p.1) (are_utf8 r) h.utf8).1;
  texts = (and_parts (is_short p) (list_all is_short r) h.texts).1;
}

pairs_read : (limited : Bool) (at least : ℕ) (before r : Pairs) → are_below least before ≡ true → ascends_from least r ≡ true → FineRdn r → length before + length r ≤ 4 → pairs_at limited at before (map text_of_pair r) ≡ Ok (before ++ r)
pairs_read limited at least before [] below up fine few = ap Ok (sym (append-nil before))
pairs_read limited at least before (p ∷ r) below up fine few =
    let parts = and_parts (nat_le least p.0) (ascends_from (p.0 + 1) r) up in
    let le : least ≤ p.0 = leb-true least p.0 parts.0 in
    let absent = below_absent p.0 before (below_later least p.0 before le below) in
    let room : (limited && nat_le 4 (length before)) ≡ false = and_right limited (nat_le 4 (length before)) (lt-leb 4 (length before) (omega arith)) in
    let count : length (before ++ p ∷ []) + length r ≤ 4 = (let e = length_push before p in omega (arith, e)) in
    ap (λ b. if b then Err TooManyPairs else (pair_at limited at before (text_of_pair p) >>= λ q. pairs_at limited (at + length (text_of_pair p) + 1) (before ++ q ∷ []) (map text_of_pair r))) room
    ∙ ap (λ x. x >>= λ q. pairs_at limited (at + length (text_of_pair p) + 1) (before ++ q ∷ []) (map text_of_pair r)) (pair_read limited at before p (first_fine p r fine) absent)
    ∙ pairs_read limited (at + length (text_of_pair p) + 1) (p.0 + 1) (before ++ p ∷ []) r (below_more p least before below le) parts.1 (others_fine p r fine) count
    ∙ ap Ok (append_assoc before (p ∷ []) r)

-- ---- no cut within a pair or an RDN

digit_high : (d : ℕ) → 48 ≤ digit_char d
digit_high d = elim (cases_lt d 10) [
  | inl digit ↦ grind (arith, nat_tests)
  | inr letter ↦ grind (arith, nat_tests)
]

digit_free : (c d : ℕ) → c < 48 → not (digit_char d == c) ≡ true
digit_free c d h = let high = digit_high d in ap not (ne_eqb (digit_char d) c (λ e. omega (arith, e, high)))

octet_free : (c b : ℕ) → c < 48 → is_escaped c ≡ true → is_free c (escaped_octet b) ≡ true
octet_free c b low cuts = elim (cases_Bool (is_escaped b)) [
  | inl e ↦ ap (λ t. is_free c (if t then backslash ∷ digit_char (b / 16) ∷ digit_char (b % 16) ∷ [] else b ∷ [])) e
      ∙ ap₂ ◌&&◌ (ap not (ne_eqb 92 c (λ same. omega (arith, same)))) (ap₂ ◌&&◌ (digit_free c (b / 16) low) (ap (λ t. t && true) (digit_free c (b % 16) low)))
  | inr e ↦ ap (λ t. is_free c (if t then backslash ∷ digit_char (b / 16) ∷ digit_char (b % 16) ∷ [] else b ∷ [])) e
      ∙ ap (λ t. not t && true) (ne_eqb b c (λ same. both_ways (is_escaped c) (ap is_escaped (sym same) ∙ e) cuts))
]

escaped_free : (c : ℕ) (t : Text) → c < 48 → is_escaped c ≡ true → is_free c (escaped t) ≡ true
escaped_free c [] low cuts = refl
escaped_free c (b ∷ t) low cuts = list_all-append (λ x. not (x == c)) (escaped_octet b) (escaped t) ∙ ap₂ ◌&&◌ (octet_free c b low cuts) (escaped_free c t low cuts)

pair_free : (c : ℕ) (p : ℕ × Text) → c < 48 → is_escaped c ≡ true → is_free c (keyword_of p.0) ≡ true → is_free c (text_of_pair p) ≡ true
pair_free c p low cuts word =
    list_all-append (λ x. not (x == c)) (keyword_of p.0) (equals ∷ escaped p.1)
    ∙ ap₂ ◌&&◌ word (ap₂ ◌&&◌ (ap not (ne_eqb 61 c (λ same. omega (arith, same)))) (escaped_free c p.1 low cuts))

word_of : (p : ℕ × Text) → is_pair p ≡ true → Keyword p.0
word_of p h = keyword p.0 (and_parts (may_name p.0) (is_text_of_kind (kind_of p.0) p.1) h).0

pairs_no_plus : (r : Pairs) → list_all is_pair r ≡ true → list_all (is_free plus) (map text_of_pair r) ≡ true
pairs_no_plus [] h = refl
pairs_no_plus (p ∷ r) h =
    let parts = and_parts (is_pair p) (list_all is_pair r) h in
    ap₂ ◌&&◌ (pair_free plus p (lit< tt) refl (word_of p parts.0).no_plus) (pairs_no_plus r parts.1)

pairs_no_slash : (r : Pairs) → list_all is_pair r ≡ true → is_free slash (text_of_pairs r) ≡ true
pairs_no_slash [] h = refl
pairs_no_slash (p ∷ []) h = pair_free slash p (lit< tt) refl (word_of p (and_parts (is_pair p) true h).0).no_slash
pairs_no_slash (p ∷ q ∷ r) h =
    let parts = and_parts (is_pair p) (list_all is_pair (q ∷ r)) h in
    list_all-append (λ x. not (x == slash)) (text_of_pair p) (plus ∷ text_of_pairs (q ∷ r))
    ∙ ap₂ ◌&&◌ (pair_free slash p (lit< tt) refl (word_of p parts.0).no_slash) (pairs_no_slash (q ∷ r) parts.1)

pub rdn_read : (limited : Bool) (at : ℕ) (r : Pairs) → is_rdn r ≡ true → are_utf8 r ≡ true → is_small r ≡ true → rdn_at limited at (text_of_pairs r) ≡ Ok r
rdn_read limited at [] valid utf8 small = cc
rdn_read limited at (p ∷ r) valid utf8 small =
    let outer = and_parts (nat_lt 0 (length (p ∷ r)) && list_all is_pair (p ∷ r)) (ascends_from 0 (p ∷ r)) valid in
    let pairs = (and_parts (nat_lt 0 (length (p ∷ r))) (list_all is_pair (p ∷ r)) outer.0).1 in
    let limits = and_parts (nat_le (length (p ∷ r)) 4) (list_all is_short (p ∷ r)) small in
    let count : length (p ∷ r) ≤ 4 = leb-true (length (p ∷ r)) 4 limits.0 in
    ap (pairs_at limited at []) (cut_joined plus (text_of_pair p) (map text_of_pair r) (pairs_no_plus (p ∷ r) pairs))
    ∙ pairs_read limited at 0 [] (p ∷ r) refl outer.1 (record { pairs = pairs; utf8 = utf8; texts = limits.1 }) (omega (arith, count))

-- ---- a name

rdns_read : (limited : Bool) (at : ℕ) (before n : NameValue) → is_name n ≡ true → list_all are_utf8 n ≡ true → list_all is_small n ≡ true → length before + length n ≤ 16 → rdns_at limited at before (map text_of_pairs n) ≡ Ok (before ++ n)
rdns_read limited at before [] valid utf8 small few = ap Ok (sym (append-nil before))
rdns_read limited at before (r ∷ n) valid utf8 small few =
    let v = and_parts (is_rdn r) (is_name n) valid in
    let u = and_parts (are_utf8 r) (list_all are_utf8 n) utf8 in
    let s = and_parts (is_small r) (list_all is_small n) small in
    let room : (limited && nat_le 16 (length before)) ≡ false = and_right limited (nat_le 16 (length before)) (lt-leb 16 (length before) (omega arith)) in
    let count : length (before ++ r ∷ []) + length n ≤ 16 = (let e = length_push before r in omega (arith, e)) in
    ap (λ b. if b then Err TooManyRdns else (rdn_at limited at (text_of_pairs r) >>= λ q. rdns_at limited (at + length (text_of_pairs r) + 1) (before ++ q ∷ []) (map text_of_pairs n))) room
    ∙ ap (λ x. x >>= λ q. rdns_at limited (at + length (text_of_pairs r) + 1) (before ++ q ∷ []) (map text_of_pairs n)) (rdn_read limited at r v.0 u.0 s.0)
    ∙ rdns_read limited (at + length (text_of_pairs r) + 1) (before ++ r ∷ []) n v.1 u.1 s.1 count
    ∙ ap Ok (append_assoc before (r ∷ []) n)

pub rdn_no_slash : (r : Pairs) → is_rdn r ≡ true → is_free slash (text_of_pairs r) ≡ true
rdn_no_slash r h =
    let outer = and_parts (nat_lt 0 (length r) && list_all is_pair r) (ascends_from 0 r) h in
    pairs_no_slash r (and_parts (nat_lt 0 (length r)) (list_all is_pair r) outer.0).1

name_cut : (r : Pairs) (n : NameValue) → is_name (r ∷ n) ≡ true → slice_split (λ b. b == slash) (text_of_pairs r ++ flat_map slash_and_pairs n) ≡ map text_of_pairs (r ∷ n)
name_cut r [] h =
    let v = and_parts (is_rdn r) true h in
    ap (slice_split (λ b. b == slash)) (append-nil (text_of_pairs r)) ∙ cut_all slash (text_of_pairs r) (rdn_no_slash r v.0)
name_cut r (s ∷ n) h =
    let v = and_parts (is_rdn r) (is_name (s ∷ n)) h in
    cut_first slash (text_of_pairs r) (text_of_pairs s ++ flat_map slash_and_pairs n) (rdn_no_slash r v.0) ∙ ap (λ ts. text_of_pairs r ∷ ts) (name_cut s n v.1)

behind : (limited : Bool) (t : Text) → 0 < length t → behind_slash limited t ≡ rdns_at limited 1 [] (slice_split (λ c. c == slash) t)
behind limited [] h = absurd (omega arith)
behind limited (b ∷ t) h = refl

pair_some : (p : ℕ × Text) → 0 < length (text_of_pair p)
pair_some p = let e = length-append (keyword_of p.0) (equals ∷ escaped p.1) in omega (arith, e)

pairs_some : (r : Pairs) → is_rdn r ≡ true → 0 < length (text_of_pairs r)
pairs_some [] h = cc
pairs_some (p ∷ []) h = pair_some p
pairs_some (p ∷ q ∷ r) h = let s = pair_some p in let e = length-append (text_of_pair p) (plus ∷ text_of_pairs (q ∷ r)) in omega (arith, s, e)

name_some : (r : Pairs) (n : NameValue) → is_rdn r ≡ true → 0 < length (text_of_pairs r ++ flat_map slash_and_pairs n)
name_some r n h = let s = pairs_some r h in let e = length-append (text_of_pairs r) (flat_map slash_and_pairs n) in omega (arith, s, e)

pub written_read : (limited : Bool) (n : NameValue) → is_name n ≡ true → list_all are_utf8 n ≡ true → list_all is_small n ≡ true → length n ≤ 16 → written_name limited (text_of_written n) ≡ Ok n
written_read limited [] valid utf8 small few = refl
written_read limited (r ∷ n) valid utf8 small few =
    behind limited (text_of_pairs r ++ flat_map slash_and_pairs n) (name_some r n (and_parts (is_rdn r) (is_name n) valid).0)
    ∙ ap (rdns_at limited 1 []) (name_cut r n valid)
    ∙ rdns_read limited 1 [] (r ∷ n) valid utf8 small (omega (arith, few))
