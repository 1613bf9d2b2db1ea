-- A text is characters.
use Rattle.std.proofs.Common.{◌≡◌, ℕ, true, List, [], ◌∷◌, refl, ap, sym, ◌∙◌, arith}
use Rattle.std.specs.Prelude.{chars, encode_utf8_all}
use Rattle.std.proofs.lemmas.Bool.Decides.{nat_tests}
use Rattle.std.proofs.lemmas.Str.{chars_from_encodes, scalars-chars}
use Rattle.std.specs.List.{list_all}
use Rattle.std.specs.Str.{IsUtf8}
use lib.Utf8.{scalar, scalars}
use Rattle.x5_model.specs.Words.{same_octets}
use Rattle.x5_model.proofs.Lists.{both_true, and_true}
use Rattle.std.specs.Cmp.Lexicographic.{bytes_decides}
use Rattle.x5_model_typed.specs.Leaves.{is_character, are_characters}

character_by : (c : ℕ) → scalar c ≡ true → is_character c ≡ true
character_by c h = grind (arith, nat_tests)

characters_by : (cs : List ℕ) → scalars cs ≡ true → list_all is_character cs ≡ true
characters_by [] h = refl
characters_by (c ∷ cs) h =
    let w = both_true (scalar c) (scalars cs) h in
    and_true (is_character c) (list_all is_character cs) (character_by c w.0) (characters_by cs w.1)

pub text_is_characters : (t : List ℕ) → IsUtf8 t → are_characters t ≡ true
text_is_characters t u =
    let same : encode_utf8_all (chars t) ≡ t =
    ap encode_utf8_all (sym (chars_from_encodes u.0 t u u.1.1)) ∙ u.1.1 in
    and_true (list_all is_character (chars t)) (same_octets (encode_utf8_all (chars t)) t)
    (characters_by (chars t) (scalars-chars t u))
    ((bytes_decides (encode_utf8_all (chars t)) t).1 same)
