-- Texts of types, values and names, read and printed: each line computes.
use Rattle.std.proofs.Common.{◌≡◌, [], ◌∷◌, None, Some, Ok, Err, codes, refl}
use Rattle.std.specs.Fmt.{digits}
use Rattle.std.specs.Str.{chars, is_utf8}
use lib.Utf8.{encode}
use Rattle.x5_model.specs.Values.{Known, Unknown, TextValue, OidValue, NameOf}
use Rattle.x5_model.specs.Normal.{WrongSyntax}
use Rattle.x5_model_text.specs.TypeText.{type_of_text, text_of_type}
use Rattle.x5_model_text.specs.ValueText.{escaped, resolved}
use Rattle.x5_model_text.specs.NameText.{BadSpelling, UnknownType, RepeatedType, name_of_text, rdn_of_text, text_of_written, text_of_value, value_of_text}

keyword_in_any_case : type_of_text (codes "cOmmonname") ≡ None
keyword_in_any_case = refl

keyword : type_of_text (codes "TELEPHONEnumber") ≡ Some (Known 20)
keyword = refl

dotted_keyword : type_of_text (codes "2.5.4.3") ≡ Some (Known 3)
dotted_keyword = refl

unknown_type : type_of_text (codes "2.5.4.2") ≡ Some (Unknown (2 ∷ 5 ∷ 4 ∷ 2 ∷ []))
unknown_type = refl

leading_zero : type_of_text (codes "2.05") ≡ None
leading_zero = refl

first_arc : type_of_text (codes "3.5") ≡ None
first_arc = refl

second_arc : type_of_text (codes "1.40") ≡ None
second_arc = refl

largest_arc : type_of_text (codes "2.4294967295") ≡ Some (Unknown (2 ∷ 4294967295 ∷ []))
largest_arc = refl

arc_too_large : type_of_text (codes "2.4294967296") ≡ None
arc_too_large = refl

keyword_printed : text_of_type (Known 13) ≡ codes "description"
keyword_printed = refl

identifier_printed : text_of_type (Unknown (1 ∷ 3 ∷ 6 ∷ [])) ≡ codes "1.3.6"
unfolding digits
identifier_printed = refl

escapes : escaped (codes "a b/c+d=e\\f(g)h*i,j;k") ≡ codes "a\\20b\\2fc\\2bd\\3de\\5cf\\28g\\29h\\2ai\\2cj\\3bk"
escapes = refl

resolved_escapes : resolved 0 (codes "a\\2Fb\\2fc") ≡ Ok (codes "a/b/c")
resolved_escapes = refl

half_an_escape : resolved 5 (codes "ab\\2") ≡ Err 7
half_an_escape = refl

control_behind_an_escape : resolved 5 (97 ∷ 92 ∷ 50 ∷ 48 ∷ 10 ∷ []) ≡ Err 9
control_behind_an_escape = refl

root : name_of_text (codes "/") ≡ Ok []
root = refl

name : name_of_text (codes "/c=NL/2.5.4.10=Ex\\2fample") ≡ Ok (((6, codes "NL") ∷ []) ∷ ((10, codes "Ex/ample") ∷ []) ∷ [])
unfolding is_utf8 chars encode
name = refl

name_printed : text_of_written (((6, codes "NL") ∷ []) ∷ ((10, codes "Ex/ample") ∷ []) ∷ []) ≡ codes "/C=NL/O=Ex\\2fample"
name_printed = refl

sorted_pairs : name_of_text (codes "/OU=b+CN=a") ≡ Ok (((3, codes "a") ∷ (11, codes "b") ∷ []) ∷ [])
unfolding is_utf8 chars encode
sorted_pairs = refl

no_slash : name_of_text (codes "C=NL") ≡ Err (BadSpelling 0)
no_slash = refl

no_equals : name_of_text (codes "/C=NL/Example") ≡ Err (BadSpelling 13)
unfolding is_utf8 chars encode
no_equals = refl

last_slash : name_of_text (codes "/C=NL/") ≡ Err (BadSpelling 6)
unfolding is_utf8 chars encode
last_slash = refl

three_letters : name_of_text (codes "/C=NLD") ≡ Err (BadSpelling 3)
unfolding is_utf8 chars encode
three_letters = refl

cut_by_an_escape : name_of_text (codes "/CN=a\\c3") ≡ Err (BadSpelling 4)
unfolding is_utf8 chars encode
cut_by_an_escape = refl

type_that_may_not_name : name_of_text (codes "/member=a") ≡ Err UnknownType
type_that_may_not_name = refl

repeated : name_of_text (codes "/CN=a+OU=b+cn=c") ≡ Err RepeatedType
unfolding is_utf8 chars encode
repeated = refl

slash_in_an_rdn : rdn_of_text (codes "CN=a/b") ≡ Err (BadSpelling 4)
unfolding is_utf8 chars encode
slash_in_an_rdn = refl

oid_value : value_of_text (Known 0) (codes "2.5.6.6") ≡ Ok (OidValue (2 ∷ 5 ∷ 6 ∷ 6 ∷ []))
unfolding is_utf8 chars encode
oid_value = refl

kept_text : value_of_text (Known 0) (codes "person") ≡ Ok (TextValue (codes "person"))
unfolding is_utf8 chars encode
kept_text = refl

name_value : value_of_text (Known 31) (codes "\\2fC\\3dNL") ≡ Ok (NameOf (((6, codes "NL") ∷ []) ∷ []))
unfolding is_utf8 chars encode
name_value = refl

name_value_printed : text_of_value (NameOf (((6, codes "NL") ∷ (10, codes "a b") ∷ []) ∷ [])) ≡ codes "\\2fC\\3dNL\\2bO\\3da\\5c20b"
name_value_printed = refl

no_value : value_of_text (Known 3) [] ≡ Err WrongSyntax
unfolding is_utf8 chars encode
no_value = refl
