-- Octets in hexadecimal digits read back.
use Rattle.std.proofs.Common.{◌≡◌, ℕ, ◌/◌, ◌%◌, ◌<◌, true, ◌&&◌, if◌then◌else◌, zero, suc, List, [], ◌∷◌, length, slice_index, None, Some, Ok, refl, ap, ap₂, ◌∙◌, lit<, arith}
use Rattle.std.proofs.lemmas.Bool.{agree_below_at, lt-ltb}
use Rattle.std.specs.List.{AllByRecursion, list_all}
use Rattle.std.specs.Option.{option_map}
use Rattle.std.specs.Result.{result_ok}
use Rattle.hex.specs.Hex.{IsBytes, lower_digits, encode_with, encode_lower, decode_of}
use Rattle.hex.proofs.HexLemmas.{length-encode_with, decode_of-encode_lower}
use Rattle.x5_model.specs.Values.{TypeRef, OctetsValue}
use Rattle.x5_model.specs.Types.{OctetsKind}
use Rattle.x5_model.specs.Normal.{within, value_over}
use Rattle.x5_model_text.specs.NameText.{kind_of_type, text_of_value, value_as, value_of_text}
use Rattle.x5_model_text.specs.ValueText.{bounded, octets_of_text, or_text}
use Rattle.x5_model_text_laws.proofs.Plain.{is_plain, plain_read}

hex_plain : (d : ℕ) → d < 16 → is_plain (slice_index lower_digits d) ≡ true
hex_plain d h = agree_below_at (λ n. is_plain (slice_index lower_digits n)) (λ n. true) 16 d refl h

pub encoded_plain : (bs : List ℕ) → AllByRecursion (λ b. b < 256) bs → list_all is_plain (encode_lower bs) ≡ true
unfolding encode_with
encoded_plain [] h = refl
encoded_plain (b ∷ bs) h =
    let small : b < 256 = h.0 in
    let high : b / 16 < 16 = omega arith in
    let low : b % 16 < 16 = omega arith in
    ap₂ ◌&&◌ (hex_plain (b / 16) high) (ap₂ ◌&&◌ (hex_plain (b % 16) low) (encoded_plain bs h.1))

bytes_of : (bs : List ℕ) → AllByRecursion (λ b. b < 256) bs → IsBytes bs
bytes_of [] h k = lit< tt
bytes_of (b ∷ bs) h zero = h.0
bytes_of (b ∷ bs) h (suc k) = bytes_of bs h.1 k

encoded_some : (bs : List ℕ) → 0 < length bs → 0 < length (encode_lower bs)
encoded_some bs h = let e = length-encode_with lower_digits bs in omega (arith, e)

octets_are_read : (bs : List ℕ) → AllByRecursion (λ b. b < 256) bs → 0 < length bs → octets_of_text (encode_lower bs) ≡ Some bs
octets_are_read bs h some =
    ap (λ t. if t then result_ok (decode_of (encode_lower bs)) else None) (lt-ltb 0 (length (encode_lower bs)) (encoded_some bs some))
    ∙ ap result_ok (decode_of-encode_lower bs (bytes_of bs h))

pub octets_read_back : (type : TypeRef) (bs : List ℕ) → kind_of_type type ≡ OctetsKind → AllByRecursion (λ b. b < 256) bs → 0 < length bs → value_over (OctetsValue bs) ≡ None → value_of_text type (text_of_value (OctetsValue bs)) ≡ Ok (OctetsValue bs)
octets_read_back type bs kind h some short =
    plain_read type (encode_lower bs) (encoded_plain bs h) (encoded_some bs some)
    ∙ ap (λ k. value_as k (encode_lower bs)) kind
    ∙ ap (λ o. bounded (or_text (encode_lower bs) (option_map OctetsValue o))) (octets_are_read bs h some)
    ∙ ap (λ o. within o (OctetsValue bs)) short
