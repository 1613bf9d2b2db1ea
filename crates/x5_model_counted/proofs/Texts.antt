-- Everything that is printed of names, values and numbers stands on one line: it has no line feed.
use Rattle.std.proofs.Common.{◌≡◌, ℕ, zero, suc, ◌+◌, ◌/◌, ◌%◌, ℤ, pos, negsuc, Bool, true, false, not, ◌||◌, ◌==◌, cond, nat_lt, Option, None, Some, List, [], ◌∷◌, ◌++◌, map, slice_index, refl, ap, ◌∙◌, arith}
use Rattle.std.proofs.lemmas.Bool.{ne_eqb}
use Rattle.std.proofs.lemmas.Bool.Decides.{nat_tests}
use Rattle.std.proofs.lemmas.List.Folds.{list_any-append}
use Rattle.std.specs.Char.{digit_char}
use Rattle.std.specs.Fmt.{digit_glyph, digits_onto, digits, decimal, signed_decimal}
use Rattle.std.specs.List.{AllByRecursion, concat, list_any, list_all, find, flat_map, join_with_byte}
use Rattle.hex.specs.Hex.{lower_digits, encode_with, encode_lower}
use Rattle.x5_model.proofs.Lists.{both_true}
use Rattle.x5_model.specs.Normal.{written_rdn}
use Rattle.x5_model.specs.Types.{Row, table, row_of, in_row}
use Rattle.x5_model.specs.Values.{Text, TypeRef, Known, Unknown, Value, TextValue, OctetsValue, OidValue, NameOf, Rdn, Name, NameValue, written}
use Rattle.x5_model.specs.Words.{in_option}
use Rattle.x5_model_output.specs.Output.{word_at}
use Rattle.x5_model_script.specs.Script.{is_line_feed}
use Rattle.x5_model_text.specs.NameText.{slash, plus, equals, text_of_pair, text_of_pairs, slash_and_pairs, text_of_written, text_of_name, text_of_rdn, text_of_value}
use Rattle.x5_model_text.specs.TypeText.{dot, keyword_of, text_of_oid, text_of_type}
use Rattle.x5_model_text.specs.ValueText.{backslash, is_escaped, escaped_octet, escaped}
use Rattle.x5_model_counted.specs.Laws.{is_one_line}

-- no line feed
abbrev pub OneLine : Text → Type 0
OneLine t = is_one_line t ≡ true

-- ---- pieces

not_or : (a b : Bool) → not a ≡ true → not b ≡ true → not (a || b) ≡ true
not_or true b p q = p
not_or false b p q = q

pub one_octet : (b : ℕ) (t : Text) → is_line_feed b ≡ false → OneLine t → OneLine (b ∷ t)
one_octet b t p q = not_or (is_line_feed b) (list_any is_line_feed t) (ap not p) q

pub joined : (a b : Text) → OneLine a → OneLine b → OneLine (a ++ b)
joined a b p q =
    ap not (list_any-append is_line_feed a b) ∙ not_or (list_any is_line_feed a) (list_any is_line_feed b) p q

pub all_joined : (ts : List Text) → AllByRecursion OneLine ts → OneLine (concat ts)
all_joined [] h = refl
all_joined (t ∷ ts) h = joined t (concat ts) h.0 (all_joined ts h.1)

module _ {X : Type 0} (f : X → Text) (h : (x : X) → OneLine (f x)) where
  pub each : (xs : List X) → OneLine (flat_map f xs)
  each [] = refl
  each (x ∷ xs) = joined (f x) (flat_map f xs) (h x) (each xs)

  pub each_by : (c : ℕ) → is_line_feed c ≡ false → (xs : List X) → OneLine (join_with_byte c (map f xs))
  each_by c e [] = refl
  each_by c e (x ∷ []) = h x
  each_by c e (x ∷ y ∷ xs) =
      joined (f x) (c ∷ join_with_byte c (map f (y ∷ xs))) (h x)
      (one_octet c (join_with_byte c (map f (y ∷ xs))) e (each_by c e (y ∷ xs)))

-- a word of a table, whose words have none
pub word_found : {X : Type 0} (f : X → Text) (test : X → Bool) (xs : List X) → list_all (λ x. is_one_line (f x)) xs ≡ true
    → OneLine (in_option [] f (find test xs))
word_found f test [] h = refl
word_found f test (x ∷ xs) h =
    let parts = both_true (is_one_line (f x)) (list_all (λ y. is_one_line (f y)) xs) h in
    by (test x) parts.0 (word_found f test xs parts.1)
  where
    by : (b : Bool) → OneLine (f x) → OneLine (in_option [] f (find test xs)) → OneLine (in_option [] f (cond b (Some x) (find test xs)))
    by true p q = p
    by false p q = q

pub word_one : (words : List (ℕ × Text)) → list_all (λ p. is_one_line p.1) words ≡ true → (n : ℕ) → OneLine (word_at words n)
word_one words h n = word_found (λ p. p.1) (λ p. p.0 == n) words h

-- ---- numbers

no_glyph : (upper : Bool) (d : ℕ) → is_line_feed (digit_glyph upper d) ≡ false
no_glyph upper d = by (nat_lt d 10) upper
  where
    by : (low u : Bool) → is_line_feed (cond low (48 + d) (cond u (55 + d) (87 + d))) ≡ false
    by true u = ne_eqb (48 + d) 10 (λ e. omega (arith, e))
    by false true = ne_eqb (55 + d) 10 (λ e. omega (arith, e))
    by false false = ne_eqb (87 + d) 10 (λ e. omega (arith, e))

digits_one : (k base : ℕ) (upper : Bool) (n : ℕ) (acc : Text) → OneLine acc → OneLine (digits_onto k base upper n acc)
digits_one zero base upper n acc h = h
digits_one (suc k) base upper n acc h =
    let one = one_octet (digit_glyph upper (n % base)) acc (no_glyph upper (n % base)) h in
    by (n / base == 0) one (digits_one k base upper (n / base) (digit_glyph upper (n % base) ∷ acc) one)
  where
    by : (b : Bool) → OneLine (digit_glyph upper (n % base) ∷ acc) → OneLine (digits_onto k base upper (n / base) (digit_glyph upper (n % base) ∷ acc))
        → OneLine (cond b (digit_glyph upper (n % base) ∷ acc) (digits_onto k base upper (n / base) (digit_glyph upper (n % base) ∷ acc)))
    by true p q = p
    by false p q = q

pub decimal_one : (n : ℕ) → OneLine (decimal n)
unfolding digits
decimal_one n = digits_one 64 10 false n [] refl

pub signed_one : (n : ℤ) → OneLine (signed_decimal n)
signed_one (pos n) = decimal_one n
signed_one (negsuc n) = one_octet 45 (decimal (suc n)) refl (decimal_one (suc n))

-- ---- values

no_digit_char : (d : ℕ) → is_line_feed (digit_char d) ≡ false
no_digit_char d = by (nat_lt d 10)
  where
    by : (low : Bool) → is_line_feed (cond low (48 + d) (87 + d)) ≡ false
    by true = ne_eqb (48 + d) 10 (λ e. omega (arith, e))
    by false = ne_eqb (87 + d) 10 (λ e. omega (arith, e))

-- an octet that isn't escaped is no control character
plain_octet : (b : ℕ) → is_escaped b ≡ false → is_line_feed b ≡ false
plain_octet b h = grind (arith, nat_tests)

escaped_octet_one : (b : ℕ) → OneLine (escaped_octet b)
escaped_octet_one b = by (is_escaped b) refl
  where
    by : (e : Bool) → is_escaped b ≡ e → OneLine (cond e (backslash ∷ digit_char (b / 16) ∷ digit_char (b % 16) ∷ []) (b ∷ []))
    by true q =
        one_octet backslash (digit_char (b / 16) ∷ digit_char (b % 16) ∷ []) refl
        (one_octet (digit_char (b / 16)) (digit_char (b % 16) ∷ []) (no_digit_char (b / 16))
        (one_octet (digit_char (b % 16)) [] (no_digit_char (b % 16)) refl))
    by false q = one_octet b [] (plain_octet b q) refl

pub escaped_one : (t : Text) → OneLine (escaped t)
escaped_one t = each escaped_octet escaped_octet_one t

no_digit_at : (t : Text) (i : ℕ) → OneLine t → is_line_feed (slice_index t i) ≡ false
no_digit_at [] i h = refl
no_digit_at (b ∷ t) zero h = first (is_line_feed b) h
  where
    first : (x : Bool) → not (x || list_any is_line_feed t) ≡ true → x ≡ false
    first true q = cc
    first false q = refl
no_digit_at (b ∷ t) (suc i) h = no_digit_at t i (behind (is_line_feed b) h)
  where
    behind : (x : Bool) → not (x || list_any is_line_feed t) ≡ true → not (list_any is_line_feed t) ≡ true
    behind true q = cc
    behind false q = q

encoded_one : (bs : List ℕ) → OneLine (encode_lower bs)
unfolding encode_with
encoded_one [] = refl
encoded_one (b ∷ bs) =
    one_octet (slice_index lower_digits (b / 16)) (slice_index lower_digits (b % 16) ∷ encode_lower bs) (no_digit_at lower_digits (b / 16) refl)
    (one_octet (slice_index lower_digits (b % 16)) (encode_lower bs) (no_digit_at lower_digits (b % 16) refl) (encoded_one bs))

oid_one : (arcs : List ℕ) → OneLine (text_of_oid arcs)
oid_one arcs = each_by decimal decimal_one dot refl arcs

keyword_one : (n : ℕ) → OneLine (keyword_of n)
keyword_one n = by (row_of n) (word_found (λ (r : Row). r.keyword) (λ r. r.number == n) table refl)
  where
    by : (o : Option Row) → OneLine (in_option [] (λ (r : Row). r.keyword) o) → OneLine (in_row [] (λ r. r.keyword) o)
    by None h = h
    by (Some r) h = h

pub type_one : (t : TypeRef) → OneLine (text_of_type t)
type_one (Known n) = keyword_one n
type_one (Unknown arcs) = oid_one arcs

-- ---- names

pair_one : (p : ℕ × Text) → OneLine (text_of_pair p)
pair_one p = joined (keyword_of p.0) (equals ∷ escaped p.1) (keyword_one p.0) (one_octet equals (escaped p.1) refl (escaped_one p.1))

pairs_one : (r : List (ℕ × Text)) → OneLine (text_of_pairs r)
pairs_one r = each_by text_of_pair pair_one plus refl r

slash_one : (r : List (ℕ × Text)) → OneLine (slash_and_pairs r)
slash_one r = one_octet slash (text_of_pairs r) refl (pairs_one r)

written_one : (n : NameValue) → OneLine (text_of_written n)
written_one [] = refl
written_one (r ∷ n) = each slash_and_pairs slash_one (r ∷ n)

pub name_one : (n : Name) → OneLine (text_of_name n)
name_one n = written_one (written n)

pub rdn_one : (r : Rdn) → OneLine (text_of_rdn r)
rdn_one r = pairs_one (written_rdn r)

pub value_one : (v : Value) → OneLine (text_of_value v)
value_one (TextValue t) = escaped_one t
value_one (OctetsValue bs) = encoded_one bs
value_one (OidValue arcs) = oid_one arcs
value_one (NameOf n) = escaped_one (text_of_written n)
