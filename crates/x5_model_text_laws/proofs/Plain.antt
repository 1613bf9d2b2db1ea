-- Texts of ASCII characters that are printed as they stand.
use Rattle.std.proofs.Common.{◌≡◌, ℕ, ◌<◌, Bool, true, false, ◌&&◌, not, if◌then◌else◌, nat_lt, [], ◌∷◌, ◌++◌, length, Ok, Err, ◌/◌, ◌%◌, IsAscii, refl, sym, ap, ap₂, ◌∙◌, arith}
use Rattle.std.proofs.lemmas.Bool.{and_parts, not-true, lt-ltb}
use Rattle.std.proofs.lemmas.Bool.Decides.{nat_tests}
use Rattle.std.proofs.lemmas.Str.{IsUtf8-from_ascii, is_utf8-from_IsUtf8}
use Rattle.std.proofs.lemmas.Str.Ascii.{IsAscii-nil, IsAscii-cons}
use Rattle.std.specs.List.{AllByRecursion, list_all}
use Rattle.std.specs.Char.{digit_char, is_ascii_digit}
use Rattle.std.specs.Str.{is_utf8}
use Rattle.x5_model.specs.Values.{Text, TypeRef}
use Rattle.x5_model.specs.Normal.{WrongSyntax}
use Rattle.x5_model_text.specs.NameText.{kind_of_type, value_as, value_of_resolved, value_of_text}
use Rattle.x5_model_text.specs.ValueText.{backslash, is_escaped, escaped, resolved}
use Rattle.x5_model_text_laws.proofs.Escapes.{resolved_escaped}

abbrev pub is_plain : ℕ → Bool
is_plain b = nat_lt b 128 && not (is_escaped b)

pub one_plain : (b : ℕ) → is_plain b ≡ true → (b < 128) × (is_escaped b ≡ false)
one_plain b h = let parts = and_parts (nat_lt b 128) (not (is_escaped b)) h in (grind (arith, nat_tests), not-true (is_escaped b) parts.1)

pub plain_octets : (t : Text) → list_all is_plain t ≡ true → AllByRecursion (λ b. b < 256) t
plain_octets [] h = tt
plain_octets (b ∷ t) h =
    let parts = and_parts (is_plain b) (list_all is_plain t) h in
    let low = (one_plain b parts.0).0 in
    (omega arith, plain_octets t parts.1)

pub plain_ascii : (t : Text) → list_all is_plain t ≡ true → IsAscii t
plain_ascii [] h = IsAscii-nil
plain_ascii (b ∷ t) h =
    let parts = and_parts (is_plain b) (list_all is_plain t) h in
    IsAscii-cons b t (one_plain b parts.0).0 (plain_ascii t parts.1)

pub plain_stands : (t : Text) → list_all is_plain t ≡ true → escaped t ≡ t
plain_stands [] h = refl
plain_stands (b ∷ t) h =
    let parts = and_parts (is_plain b) (list_all is_plain t) h in
    ap₂ (λ c u. (if c then backslash ∷ digit_char (b / 16) ∷ digit_char (b % 16) ∷ [] else b ∷ []) ++ u) (one_plain b parts.0).1 (plain_stands t parts.1)

pub plain_resolves : (at : ℕ) (t : Text) → list_all is_plain t ≡ true → resolved at t ≡ Ok t
plain_resolves at t h = ap (resolved at) (sym (plain_stands t h)) ∙ resolved_escaped at t (plain_octets t h)

pub plain_utf8 : (t : Text) → list_all is_plain t ≡ true → is_utf8 t ≡ true
plain_utf8 t h = is_utf8-from_IsUtf8 t (IsUtf8-from_ascii t (plain_ascii t h))

-- such a text is read by its type's kind
pub plain_read : (type : TypeRef) (t : Text) → list_all is_plain t ≡ true → 0 < length t → value_of_text type t ≡ value_as (kind_of_type type) t
plain_read type t h some =
    ap (value_of_resolved (kind_of_type type)) (plain_resolves 0 t h)
    ∙ ap₂ (λ u s. if u && s then value_as (kind_of_type type) t else Err WrongSyntax) (plain_utf8 t h) (lt-ltb 0 (length t) some)

pub digit_plain : (b : ℕ) → is_ascii_digit b ≡ true → is_plain b ≡ true
digit_plain b h = grind (arith, nat_tests)

pub digits_plain : (t : Text) → list_all is_ascii_digit t ≡ true → list_all is_plain t ≡ true
digits_plain [] h = refl
digits_plain (b ∷ t) h =
    let parts = and_parts (is_ascii_digit b) (list_all is_ascii_digit t) h in
    ap₂ ◌&&◌ (digit_plain b parts.0) (digits_plain t parts.1)
