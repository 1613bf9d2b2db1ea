-- A normal form is its own normal form.
use Rattle.std.proofs.Common.{◌≡◌, ℕ, ◌<◌, ◌≤◌, Bool, true, false, ◌&&◌, ◌||◌, ◌==◌, not, if◌then◌else◌, nat_lt, List, [], ◌∷◌, ◌++◌, length, map, filter, Option, None, Some, Result, Ok, Err, IsUtf8, IsAscii, refl, sym, ap, ap₂, ◌∙◌, inl, inr, arith}
use Rattle.std.proofs.lemmas.Bool.{cases_Bool, cases_lt, and_parts, and_from, or_right, lt-ltb, ltb-true, leb-true}
use Rattle.std.proofs.lemmas.Bool.Decides.{nat_tests}
use Rattle.std.proofs.lemmas.List.{length-map}
use Rattle.std.proofs.lemmas.List.Folds.{list_all-append, list_all-map}
use Rattle.std.proofs.lemmas.Str.{IsUtf8-from_is_utf8, chars-IsAscii, encodes-chars, encode_ascii}
use Rattle.std.proofs.lemmas.Str.Ascii.{IsAscii-nil, IsAscii-cons}
use Rattle.std.specs.Char.{is_ascii_alphabetic, is_ascii_digit, to_ascii_lowercase}
use Rattle.std.specs.List.{list_all, list_any}
use Rattle.std.specs.Str.{chars, is_utf8}
use Rattle.ucd_case.proofs.CaseFoldingLemmas.{full_fold-ascii}
use Rattle.ucd_case.specs.CaseFolding.{full_folding, full_fold, or_itself}
use Rattle.caseless.specs.Caseless.{default_case_fold}
use lib.Utf8.{encode, encodes, scalar}
use Rattle.x5_model.specs.Values.{Text, TextValue}
use Rattle.x5_model.specs.Types.{Kind, TextKind, PrintableKind, CountryKind, NumericKind, TelephoneKind, OidKind, NameKind, OctetsKind}
use Rattle.x5_model.specs.Normal.{ValueFault, WrongSyntax, is_space, is_control, is_printable, may_stand, is_enough, is_part_of_kind, is_text_of_kind, folded, spaced, is_dialled, part_normal, text_normal, within, value_over, normal_of}
use Rattle.x5_model_text_laws.proofs.FoldTable.{is_fold, are_folds, folds}
use Rattle.x5_model_text_laws.proofs.Folding.{encode_all, folded_stable, stable_folded}
use Rattle.x5_model_text_laws.proofs.Pieces.{all_of}
use Rattle.x5_model_text_laws.proofs.Spacing.{spaced_all, spaced_twice, spaced_free, spaced_stable, filter_stands, filter_passes, filter_all, dialled_stable, dialled_free}

-- ---- twice is once

caseless_twice : (first last : Bool) (t : Text) → IsUtf8 t → spaced first last (folded (spaced first last (folded t))) ≡ spaced first last (folded t)
caseless_twice first last t h =
    let s = spaced_stable first last (folded t) (folded_stable t h) in
    ap (spaced first last) (stable_folded (spaced first last (folded t)) s) ∙ spaced_twice first last (folded t)

dialled_twice : (first last : Bool) (t : Text) → IsUtf8 t → part_normal TelephoneKind first last (part_normal TelephoneKind first last t) ≡ part_normal TelephoneKind first last t
dialled_twice first last t h =
    let u = spaced first last (folded t) in
    let s = dialled_stable u (spaced_stable first last (folded t) (folded_stable t h)) in
    let all = filter_passes is_dialled u in
    ap (λ v. filter is_dialled (spaced first last v)) (stable_folded (filter is_dialled u) s)
    ∙ ap (filter is_dialled) (spaced_free first last (filter is_dialled u) (dialled_free (filter is_dialled u) all))
    ∙ filter_stands is_dialled (filter is_dialled u) all

part_twice : (k : Kind) (first last : Bool) (t : Text) → IsUtf8 t → part_normal k first last (part_normal k first last t) ≡ part_normal k first last t
part_twice TextKind first last t h = caseless_twice first last t h
part_twice PrintableKind first last t h = caseless_twice first last t h
part_twice CountryKind first last t h = caseless_twice first last t h
part_twice NumericKind first last t h = filter_stands (λ b. not (is_space b)) (filter (λ b. not (is_space b)) t) (filter_passes (λ b. not (is_space b)) t)
part_twice TelephoneKind first last t h = dialled_twice first last t h
part_twice OidKind first last t h = refl
part_twice NameKind first last t h = refl
part_twice OctetsKind first last t h = refl

pub normal_twice : (k : Kind) (first last : Bool) (t : Text) → is_utf8 t ≡ true → part_normal k first last (part_normal k first last t) ≡ part_normal k first last t
normal_twice k first last t h = part_twice k first last t (IsUtf8-from_is_utf8 t h)

pub folds_once : (t : Text) → is_utf8 t ≡ true → folded (folded t) ≡ folded t
folds_once t h = let u = IsUtf8-from_is_utf8 t h in stable_folded (folded t) (folded_stable t u)

-- ---- folding makes no control character

abbrev is_free_of_control : ℕ → Bool
is_free_of_control b = not (is_control b)

high_fine : (b : ℕ) → 128 ≤ b → not (is_control b) ≡ true
high_fine b h = grind (arith, nat_tests)

char_fine : (c : ℕ) → not (is_control c) ≡ true → list_all is_free_of_control (encode c) ≡ true
char_fine c h = encode_all is_free_of_control c h (λ b high. high_fine b (leb-true 128 b high))

fine_char : (c : ℕ) → list_all is_free_of_control (encode c) ≡ true → not (is_control c) ≡ true
fine_char c h = elim (cases_lt c 128) [
  | inl low ↦ (and_parts (not (is_control c)) true (sym (ap (list_all is_free_of_control) (encode_ascii c low)) ∙ h)).0
  | inr high ↦ high_fine c high
]

chars_fine : (cs : List ℕ) → list_all is_free_of_control cs ≡ true → list_all is_free_of_control (encodes cs) ≡ true
chars_fine [] h = refl
chars_fine (c ∷ cs) h =
    let parts = and_parts (not (is_control c)) (list_all is_free_of_control cs) h in
    list_all-append is_free_of_control (encode c) (encodes cs) ∙ ap₂ ◌&&◌ (char_fine c parts.0) (chars_fine cs parts.1)

fine_chars : (cs : List ℕ) → list_all is_free_of_control (encodes cs) ≡ true → list_all is_free_of_control cs ≡ true
fine_chars [] h = refl
fine_chars (c ∷ cs) h =
    let parts = and_parts (list_all is_free_of_control (encode c)) (list_all is_free_of_control (encodes cs)) (sym (list_all-append is_free_of_control (encode c) (encodes cs)) ∙ h) in
    ap₂ ◌&&◌ (fine_char c parts.0) (fine_chars cs parts.1)

folds_fine : (cs : List ℕ) → are_folds full_folding cs ≡ true → list_all is_free_of_control cs ≡ true
folds_fine [] h = refl
folds_fine (c ∷ cs) h =
    let parts = and_parts (is_fold full_folding c) (are_folds full_folding cs) h in
    let one = and_parts _ (scalar c && not (is_control c)) parts.0 in
    ap₂ ◌&&◌ (and_parts (scalar c) (not (is_control c)) one.1).1 (folds_fine cs parts.1)

fold_fine : (c : ℕ) (v : List ℕ) → not (is_control c) ≡ true → are_folds full_folding v ≡ true → list_all is_free_of_control (or_itself c v) ≡ true
fold_fine c [] h all = ap (λ b. b && true) h
fold_fine c (x ∷ xs) h all = folds_fine (x ∷ xs) all

folding_fine : (cs : List ℕ) → list_all is_free_of_control cs ≡ true → list_all is_free_of_control (default_case_fold cs) ≡ true
unfolding default_case_fold
folding_fine [] h = refl
folding_fine (c ∷ cs) h =
    let parts = and_parts (not (is_control c)) (list_all is_free_of_control cs) h in
    list_all-append is_free_of_control (full_fold c) (default_case_fold cs)
    ∙ ap₂ ◌&&◌ (fold_fine c (full_folding c) parts.0 (folds c)) (folding_fine cs parts.1)

folded_fine : (t : Text) → IsUtf8 t → list_all is_free_of_control t ≡ true → list_all is_free_of_control (folded t) ≡ true
unfolding folded
folded_fine t u h = chars_fine (default_case_fold (chars t)) (folding_fine (chars t) (fine_chars (chars t) (ap (list_all is_free_of_control) (encodes-chars t u) ∙ h)))

-- ---- folded ASCII is in lower case

abbrev are_low : Text → Bool
are_low t = list_all (λ b. nat_lt b 128) t

low_ascii : (t : Text) → are_low t ≡ true → IsAscii t
low_ascii [] h = IsAscii-nil
low_ascii (b ∷ t) h =
    let parts = and_parts (nat_lt b 128) (are_low t) h in
    IsAscii-cons b t (ltb-true b 128 parts.0) (low_ascii t parts.1)

lower_small : (b : ℕ) → b < 128 → to_ascii_lowercase b < 128
lower_small b h = grind (arith, nat_tests)

ascii_folds : (t : Text) → are_low t ≡ true → encodes (default_case_fold t) ≡ map to_ascii_lowercase t
unfolding default_case_fold
ascii_folds [] h = refl
ascii_folds (b ∷ t) h =
    let parts = and_parts (nat_lt b 128) (are_low t) h in
    let low = ltb-true b 128 parts.0 in
    ap (λ l. encodes (l ++ default_case_fold t)) (full_fold-ascii b low)
    ∙ ap₂ ◌++◌ (encode_ascii (to_ascii_lowercase b) (lower_small b low)) (ascii_folds t parts.1)

folded_ascii : (t : Text) → are_low t ≡ true → folded t ≡ map to_ascii_lowercase t
unfolding folded
folded_ascii t h = ap (λ cs. encodes (default_case_fold cs)) (chars-IsAscii t (low_ascii t h)) ∙ ascii_folds t h

-- a test that lower case keeps, of ASCII alone, holds of the folded text
folded_all : (test : ℕ → Bool) → ((b : ℕ) → test b ≡ true → nat_lt b 128 ≡ true) → ((b : ℕ) → test b ≡ true → test (to_ascii_lowercase b) ≡ true) → (t : Text) → list_all test t ≡ true → list_all test (folded t) ≡ true
folded_all test low keeps t h =
    ap (list_all test) (folded_ascii t (all_of test (λ b. nat_lt b 128) low t h))
    ∙ list_all-map test to_ascii_lowercase t
    ∙ all_of test (λ b. test (to_ascii_lowercase b)) keeps t h

printable_low : (b : ℕ) → is_printable b ≡ true → nat_lt b 128 ≡ true
printable_low b h = grind (arith, nat_tests)

printable_lower : (b : ℕ) → is_printable b ≡ true → is_printable (to_ascii_lowercase b) ≡ true
printable_lower b h = grind (arith, nat_tests)

letter_low : (b : ℕ) → is_ascii_alphabetic b ≡ true → nat_lt b 128 ≡ true
letter_low b h = grind (arith, nat_tests)

letter_lower : (b : ℕ) → is_ascii_alphabetic b ≡ true → is_ascii_alphabetic (to_ascii_lowercase b) ≡ true
letter_lower b h = grind (arith, nat_tests)

letter_free : (b : ℕ) → is_ascii_alphabetic b ≡ true → not (b == 32) ≡ true
letter_free b h = grind (arith, nat_tests)

-- ---- the kind stays

part_stays : (k : Kind) (first last : Bool) (t : Text) → IsUtf8 t → is_part_of_kind k t ≡ true → is_part_of_kind k (part_normal k first last t) ≡ true
part_stays TextKind first last t u h = spaced_all is_free_of_control first last (folded t) (folded_fine t u h)
part_stays PrintableKind first last t u h = spaced_all is_printable first last (folded t) (folded_all is_printable printable_low printable_lower t h)
part_stays CountryKind first last t u h = spaced_all is_ascii_alphabetic first last (folded t) (folded_all is_ascii_alphabetic letter_low letter_lower t h)
part_stays NumericKind first last t u h = filter_all (may_stand NumericKind) (λ b. not (is_space b)) t h
part_stays TelephoneKind first last t u h = filter_all is_printable is_dialled (spaced first last (folded t)) (spaced_all is_printable first last (folded t) (folded_all is_printable printable_low printable_lower t h))
part_stays OidKind first last t u h = h
part_stays NameKind first last t u h = h
part_stays OctetsKind first last t u h = h

pub part_kind_stays : (k : Kind) (first last : Bool) (t : Text) → is_utf8 t ≡ true → is_part_of_kind k t ≡ true → is_part_of_kind k (part_normal k first last t) ≡ true
part_kind_stays k first last t u h = part_stays k first last t (IsUtf8-from_is_utf8 t u) h

country_is : (t : Text) → is_part_of_kind CountryKind t ≡ true → text_normal CountryKind t ≡ map to_ascii_lowercase t
country_is t h =
    let low = folded_ascii t (all_of is_ascii_alphabetic (λ b. nat_lt b 128) letter_low t h) in
    let letters = folded_all is_ascii_alphabetic letter_low letter_lower t h in
    spaced_free true true (folded t) (all_of is_ascii_alphabetic (λ b. not (b == 32)) letter_free (folded t) letters) ∙ low

country_enough : (t : Text) → is_part_of_kind CountryKind t ≡ true → is_enough CountryKind t ≡ true → is_enough CountryKind (text_normal CountryKind t) ≡ true
country_enough t h enough =
    ap (λ n. n == 2) (ap length (country_is t h) ∙ length-map t to_ascii_lowercase) ∙ enough

digit_kept : (b : ℕ) → is_ascii_digit b ≡ true → not (is_space b) ≡ true
digit_kept b h = grind (arith, nat_tests)

numeric_enough : (t : Text) → is_enough NumericKind t ≡ true → is_enough NumericKind (filter (λ b. not (is_space b)) t) ≡ true
numeric_enough [] h = cc
numeric_enough (b ∷ t) h = elim (cases_Bool (is_ascii_digit b)) [
  | inl digit ↦
      ap (λ k. list_any is_ascii_digit (if k then b ∷ filter (λ x. not (is_space x)) t else filter (λ x. not (is_space x)) t)) (digit_kept b digit)
      ∙ ap (λ d. d || list_any is_ascii_digit (filter (λ x. not (is_space x)) t)) digit
  | inr other ↦ by (not (is_space b)) (numeric_enough t (sym (ap (λ d. d || list_any is_ascii_digit t) other) ∙ h))
]
  where
    by : (k : Bool) → list_any is_ascii_digit (filter (λ x. not (is_space x)) t) ≡ true → list_any is_ascii_digit (if k then b ∷ filter (λ x. not (is_space x)) t else filter (λ x. not (is_space x)) t) ≡ true
    by true rest = or_right (is_ascii_digit b) _ rest
    by false rest = rest

enough_stays : (k : Kind) (t : Text) → is_part_of_kind k t ≡ true → is_enough k t ≡ true → 0 < length (text_normal k t) → is_enough k (text_normal k t) ≡ true
enough_stays TextKind t part h some = lt-ltb 0 (length (text_normal TextKind t)) some
enough_stays PrintableKind t part h some = lt-ltb 0 (length (text_normal PrintableKind t)) some
enough_stays CountryKind t part h some = country_enough t part h
enough_stays NumericKind t part h some = numeric_enough t h
enough_stays TelephoneKind t part h some = lt-ltb 0 (length (text_normal TelephoneKind t)) some
enough_stays OidKind t part h some = h
enough_stays NameKind t part h some = h
enough_stays OctetsKind t part h some = h

pub kind_stays : (k : Kind) (t : Text) → is_utf8 t ≡ true → is_text_of_kind k t ≡ true → 0 < length (text_normal k t) → is_text_of_kind k (text_normal k t) ≡ true
kind_stays k t u h some =
    let parts = and_parts (is_part_of_kind k t) (is_enough k t) h in
    and_from (is_part_of_kind k (text_normal k t)) (is_enough k (text_normal k t)) (part_kind_stays k true true t u parts.0) (enough_stays k t parts.0 parts.1 some)

-- ---- the normal form that a value has

record Normalised (k : Kind) (t : Text) (n : List ℕ) : Type 0 where
  kind : is_text_of_kind k t ≡ true
  normal : text_normal k t ≡ n

abbrev of_normal : List ℕ → Result (List ℕ) ValueFault
of_normal n = Ok n

normalised : (k : Kind) (t : Text) (n : List ℕ) (b : Bool) (o : Option ℕ) → is_text_of_kind k t ≡ b → (if b then within o (text_normal k t) else Err WrongSyntax) ≡ of_normal n → Normalised k t n
normalised k t n true None e h = record { kind = e; normal = cc }
normalised k t n true (Some most) e h = cc
normalised k t n false o e h = cc

pub normal_again : (k : Kind) (t : Text) (n : List ℕ) → is_utf8 t ≡ true → normal_of k (TextValue t) ≡ Ok n → 0 < length n → value_over (TextValue n) ≡ None → normal_of k (TextValue n) ≡ Ok n
normal_again k t n u h some short =
    let found = normalised k t n (is_text_of_kind k t) (value_over (TextValue t)) refl h in
    let length_is : length (text_normal k t) ≡ length n = ap length found.normal in
    let kind : is_text_of_kind k n ≡ true = ap (is_text_of_kind k) (sym found.normal) ∙ kind_stays k t u found.kind (omega (arith, length_is, some)) in
    let twice : text_normal k n ≡ n = ap (text_normal k) (sym found.normal) ∙ normal_twice k true true t u ∙ found.normal in
    ap (λ b. if b then within (value_over (TextValue n)) (text_normal k n) else Err WrongSyntax) kind
    ∙ ap₂ within short twice
