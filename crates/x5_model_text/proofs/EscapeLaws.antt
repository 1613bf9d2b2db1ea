-- What is printed with escapes is UTF-8 where the text is.
use Rattle.std.proofs.Common.{◌≡◌, ℕ, suc, ◌/◌, ◌%◌, ◌<◌, ◌≤◌, true, false, if◌then◌else◌, List, [], ◌∷◌, ◌++◌, length, get_or, IsUtf8, IsAscii, refl, sym, ap, ap₂, subst, inl, inr, append-nil, suc-le-suc, zero-le, lit<, arith}
use Rattle.std.proofs.lemmas.Bool.{and_parts, cases_lt}
use Rattle.std.proofs.lemmas.Bool.Decides.{nat_tests}
use Rattle.std.proofs.lemmas.Grind.{flat_map-append}
use Rattle.std.proofs.lemmas.Str.{IsUtf8-append, IsUtf8-nil, IsUtf8-encode, IsUtf8-from_ascii, encode_ascii, inside_one}
use Rattle.std.proofs.lemmas.Str.Ascii.{IsAscii-nil, IsAscii-cons}
use Rattle.std.specs.Char.{digit_char, IsScalar}
use lib.Utf8.{encode, encodes, scalar, scalars}
use Rattle.x5_model.specs.Values.{Text}
use Rattle.x5_model_text.specs.ValueText.{backslash, is_escaped, escaped_octet, escaped}

high_stays : (b : ℕ) → 128 ≤ b → is_escaped b ≡ false
high_stays b h = grind (arith, nat_tests)

pub high_octet : (b : ℕ) → 128 ≤ b → escaped_octet b ≡ b ∷ []
high_octet b h = ap (λ t. if t then backslash ∷ digit_char (b / 16) ∷ digit_char (b % 16) ∷ [] else b ∷ []) (high_stays b h)

pub high_octets : (bs : Text) → ((k : ℕ) → k < length bs → 128 ≤ get_or bs k 0) → escaped bs ≡ bs
high_octets [] h = refl
high_octets (b ∷ bs) h = ap₂ ◌++◌ (high_octet b (h 0 (suc-le-suc zero-le))) (high_octets bs (λ k lt. h (suc k) (suc-le-suc lt)))

digit_ascii : (d : ℕ) → d < 16 → digit_char d < 128
digit_ascii d h = grind (arith, nat_tests)

low_digits : (b : ℕ) → b < 128 → IsAscii (backslash ∷ digit_char (b / 16) ∷ digit_char (b % 16) ∷ [])
low_digits b h =
    let high : b / 16 < 16 = omega arith in
    let low : b % 16 < 16 = omega arith in
    IsAscii-cons backslash (digit_char (b / 16) ∷ digit_char (b % 16) ∷ []) (lit< tt) (IsAscii-cons (digit_char (b / 16)) (digit_char (b % 16) ∷ []) (digit_ascii (b / 16) high) (IsAscii-cons (digit_char (b % 16)) [] (digit_ascii (b % 16) low) IsAscii-nil))

low_octet : (b : ℕ) → b < 128 → IsAscii (escaped_octet b)
low_octet b h = elim (is_escaped b) as (λ t. IsAscii (if t then backslash ∷ digit_char (b / 16) ∷ digit_char (b % 16) ∷ [] else b ∷ [])) [
  | true ↦ low_digits b h
  | false ↦ IsAscii-cons b [] h IsAscii-nil
]

high_inside : (c : ℕ) → 128 ≤ c → (k : ℕ) → k < length (encode c) → 128 ≤ get_or (encode c) k 0
high_inside c h k lt = elim (cases_lt (get_or (encode c) k 0) 128) [
  | inl low ↦ (let same : c ≡ get_or (encode c) k 0 = inside_one c [] (encode c) k (sym (append-nil (encode c))) lt low in absurd (omega arith))
  | inr high ↦ high
]

one_char : (c : ℕ) → IsScalar c → IsUtf8 (escaped (encode c))
one_char c s = elim (cases_lt c 128) [
  | inl low ↦ subst (λ bs. IsUtf8 (escaped bs)) (sym (encode_ascii c low)) (subst IsUtf8 (sym (append-nil (escaped_octet c))) (IsUtf8-from_ascii _ (low_octet c low)))
  | inr high ↦ subst IsUtf8 (sym (high_octets (encode c) (high_inside c high))) (IsUtf8-encode c s)
]

all_chars : (cs : List ℕ) → scalars cs ≡ true → IsUtf8 (escaped (encodes cs))
all_chars [] h = IsUtf8-nil
all_chars (c ∷ cs) h =
    let parts = and_parts (scalar c) (scalars cs) h in
    subst IsUtf8 (sym (flat_map-append escaped_octet (encode c) (encodes cs))) (IsUtf8-append _ _ (one_char c parts.0) (all_chars cs parts.1))

pub IsUtf8-escaped : (t : Text) → IsUtf8 t → IsUtf8 (escaped t)
IsUtf8-escaped t h = subst (λ bs. IsUtf8 (escaped bs)) h.1.1 (all_chars h.0 h.1.0)
