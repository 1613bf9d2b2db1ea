-- Texts that are printed and read again, and normal forms: each line computes.
use Rattle.std.proofs.Common.{◌≡◌, [], ◌∷◌, ◌++◌, length, Ok, Err, codes, refl}
use Rattle.std.specs.Str.{chars, is_utf8}
use Rattle.hex.specs.Hex.{encode_with}
use Rattle.caseless.proofs.Computing.{caseless}
use lib.Utf8.{encode}
use Rattle.x5_model.specs.Values.{Known, TextValue, OctetsValue, OidValue, NameOf}
use Rattle.x5_model.specs.Types.{TextKind, TelephoneKind}
use Rattle.x5_model.specs.Normal.{WrongSyntax, folded, text_normal, normal_of}
use Rattle.x5_model_text.specs.NameText.{text_of_value, value_of_text, text_of_written, name_of_text}

-- a text of a type of object identifiers that looks like one reads as one: no text gives it as a text
text_like_an_oid : value_of_text (Known 0) (text_of_value (TextValue (codes "2.5.6"))) ≡ Ok (OidValue (2 ∷ 5 ∷ 6 ∷ []))
unfolding is_utf8 chars encode
text_like_an_oid = refl

-- no octets at all have no text
no_octets : value_of_text (Known 35) (text_of_value (OctetsValue [])) ≡ Err WrongSyntax
unfolding encode_with is_utf8 chars encode
no_octets = refl

-- pairs that aren't in the order of type numbers come back in it
unsorted : name_of_text (text_of_written (((11, codes "b") ∷ (3, codes "a") ∷ []) ∷ [])) ≡ Ok (((3, codes "a") ∷ (11, codes "b") ∷ []) ∷ [])
unfolding is_utf8 chars encode
unsorted = refl

-- the name in a value has its own escapes, and they're escaped
name_in_a_value : value_of_text (Known 31) (codes "\\2fO\\3da\\5c20b") ≡ Ok (NameOf (((10, codes "a b") ∷ []) ∷ []))
unfolding is_utf8 chars encode
name_in_a_value = refl

-- U+00DF, the sharp s, folds to two letters
sharp_s : text_normal TextKind (codes " STRA" ++ 0xc3 ∷ 0x9f ∷ codes "E  5 ") ≡ codes "strasse 5"
unfolding caseless folded chars encode
sharp_s = refl

number : text_normal TelephoneKind (codes "+44 20-7946 0018") ≡ codes "+442079460018"
unfolding caseless folded chars encode
number = refl

-- spaces alone have an empty normal form, which is no text of the kind
spaces : normal_of TextKind (TextValue (codes "   ")) ≡ Ok []
unfolding caseless folded chars encode
spaces = refl

-- so have hyphens alone, of a telephone number
hyphens : normal_of TelephoneKind (TextValue (codes "- -")) ≡ Ok []
unfolding caseless folded chars encode
hyphens = refl

nothing : normal_of TextKind (TextValue []) ≡ Err WrongSyntax
nothing = refl

-- U+0390 takes two octets and folds to three characters of two octets each: a normal form can be longer than its text
longer : length (text_normal TextKind (0xce ∷ 0x90 ∷ [])) ≡ 6
unfolding caseless folded chars encode
longer = refl
