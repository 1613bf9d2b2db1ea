-- Filters as text, read: each line computes, up to normal forms.
use Rattle.std.proofs.Common.{◌≡◌, List, [], ◌∷◌, Ok, Err, codes, refl}
use Rattle.std.specs.Str.{chars, is_utf8}
use lib.Utf8.{encode}
use Rattle.x5_model.specs.Values.{Text, TypeRef, Known, Unknown, Value, TextValue, OidValue}
use Rattle.x5_model.specs.Assertions.{assertion_of, substring_item_of}
use Rattle.x5_model.specs.Filters.{PiecePlace, Initial, Any, Last, Piece, Equality, Substrings, GreaterOrEqual, LessOrEqual, Present, Approximate, Filter, Is, And, Or, Not, Nil, More}
use Rattle.x5_model_text.specs.Filters.{filter_of_text}

part : PiecePlace → Text → Piece
part place t = record { place = place; value = TextValue t }

substrings : TypeRef → List Piece → Filter
substrings type pieces = Is (Substrings (substring_item_of type pieces))

equality : TypeRef → Value → Filter
equality type v = Is (Equality (assertion_of type v))

-- ---- what is a filter

and_of_nothing : filter_of_text (codes "(&)") ≡ Ok (And Nil)
and_of_nothing = refl

or_of_nothing : filter_of_text (codes "(|)") ≡ Ok (Or Nil)
or_of_nothing = refl

not_unknown : filter_of_text (codes "(!(1.2.3=x))") ≡ Ok (Not (equality (Unknown (1 ∷ 2 ∷ 3 ∷ [])) (TextValue (codes "x"))))
unfolding is_utf8 chars encode equality
not_unknown = refl

initial : filter_of_text (codes "(OU=s*)") ≡ Ok (substrings (Known 11) (part Initial (codes "s") ∷ []))
unfolding is_utf8 chars encode substrings part
initial = refl

final : filter_of_text (codes "(ou=*s)") ≡ Ok (substrings (Known 11) (part Last (codes "s") ∷ []))
unfolding is_utf8 chars encode substrings part
final = refl

in_the_middle : filter_of_text (codes "(OU=*s*)") ≡ Ok (substrings (Known 11) (part Any (codes "s") ∷ []))
unfolding is_utf8 chars encode substrings part
in_the_middle = refl

present : filter_of_text (codes "(CN=*)") ≡ Ok (Is (Present (Known 3)))
unfolding is_utf8 chars encode
present = refl

present_unknown : filter_of_text (codes "(1.2.3=*)") ≡ Ok (Is (Present (Unknown (1 ∷ 2 ∷ 3 ∷ []))))
unfolding is_utf8 chars encode
present_unknown = refl

three_parts : filter_of_text (codes "(CN=a*b*c)") ≡ Ok (substrings (Known 3) (part Initial (codes "a") ∷ part Any (codes "b") ∷ part Last (codes "c") ∷ []))
unfolding is_utf8 chars encode substrings part
three_parts = refl

empty_parts : filter_of_text (codes "(CN=**a***b**)") ≡ Ok (substrings (Known 3) (part Any (codes "a") ∷ part Any (codes "b") ∷ []))
unfolding is_utf8 chars encode substrings part
empty_parts = refl

a_part_is_a_text : filter_of_text (codes "(objectClass=2.5*)") ≡ Ok (substrings (Known 0) (part Initial (codes "2.5") ∷ []))
unfolding is_utf8 chars encode substrings part
a_part_is_a_text = refl

an_oid : filter_of_text (codes "(objectClass=2.5.6.6)") ≡ Ok (equality (Known 0) (OidValue (2 ∷ 5 ∷ 6 ∷ 6 ∷ [])))
unfolding is_utf8 chars encode equality
an_oid = refl

at_least : filter_of_text (codes "(CN>=a)") ≡ Ok (Is (GreaterOrEqual (assertion_of (Known 3) (TextValue (codes "a")))))
unfolding is_utf8 chars encode
at_least = refl

at_most : filter_of_text (codes "(CN<=a)") ≡ Ok (Is (LessOrEqual (assertion_of (Known 3) (TextValue (codes "a")))))
unfolding is_utf8 chars encode
at_most = refl

approximate : filter_of_text (codes "(CN~=a)") ≡ Ok (Is (Approximate (assertion_of (Known 3) (TextValue (codes "a")))))
unfolding is_utf8 chars encode
approximate = refl

equals_in_a_value : filter_of_text (codes "(CN=a=b)") ≡ Ok (equality (Known 3) (TextValue (codes "a=b")))
unfolding is_utf8 chars encode equality
equals_in_a_value = refl

reserved_octets_escaped : filter_of_text (codes "(CN=\\28\\2a\\29\\20)") ≡ Ok (equality (Known 3) (TextValue (codes "(*) ")))
unfolding is_utf8 chars encode equality
reserved_octets_escaped = refl

members_in_order : filter_of_text (codes "(&(CN=*)(|(L=*)(O=*)))") ≡ Ok (And (More (Is (Present (Known 3))) (More (Or (More (Is (Present (Known 7))) (More (Is (Present (Known 10))) Nil))) Nil)))
unfolding is_utf8 chars encode
members_in_order = refl

nesting_16 : filter_of_text (codes "(!(!(!(!(!(!(!(!(!(!(!(!(!(!(!(CN=*))))))))))))))))") ≡ Ok (Not (Not (Not (Not (Not (Not (Not (Not (Not (Not (Not (Not (Not (Not (Not (Is (Present (Known 3))))))))))))))))))
unfolding is_utf8 chars encode
nesting_16 = refl

nesting_16_of_nothing : filter_of_text (codes "(!(!(!(!(!(!(!(!(!(!(!(!(!(!(!(&))))))))))))))))") ≡ Ok (Not (Not (Not (Not (Not (Not (Not (Not (Not (Not (Not (Not (Not (Not (Not (And Nil))))))))))))))))
nesting_16_of_nothing = refl

-- ---- what is none, and the place of the first octet that can't stand

nesting_17 : filter_of_text (codes "(!(!(!(!(!(!(!(!(!(!(!(!(!(!(!(!(CN=*)))))))))))))))))") ≡ Err 32
nesting_17 = refl

nesting_17_of_nothing : filter_of_text (codes "(!(!(!(!(!(!(!(!(!(!(!(!(!(!(!(|(&)))))))))))))))))") ≡ Err 32
nesting_17_of_nothing = refl

nothing : filter_of_text (codes "") ≡ Err 0
nothing = refl

no_bracket : filter_of_text (codes "CN=a") ≡ Err 0
no_bracket = refl

empty_brackets : filter_of_text (codes "()") ≡ Err 1
empty_brackets = refl

no_sign : filter_of_text (codes "(CN)") ≡ Err 3
no_sign = refl

no_type : filter_of_text (codes "(&(CN=*)(foo=a))") ≡ Err 9
unfolding is_utf8 chars encode
no_type = refl

no_value : filter_of_text (codes "(CN=)") ≡ Err 4
unfolding is_utf8 chars encode
no_value = refl

stars_alone : filter_of_text (codes "(CN=**)") ≡ Err 6
unfolding is_utf8 chars encode
stars_alone = refl

a_star_in_an_order : filter_of_text (codes "(CN>=a*)") ≡ Err 6
unfolding is_utf8 chars encode
a_star_in_an_order = refl

a_bracket_in_a_value : filter_of_text (codes "(CN=a(b)") ≡ Err 5
unfolding is_utf8 chars encode
a_bracket_in_a_value = refl

a_space_in_a_value : filter_of_text (codes "(CN=a b)") ≡ Err 5
unfolding is_utf8 chars encode
a_space_in_a_value = refl

a_space_before_an_escape : filter_of_text (codes "(CN= \\zz)") ≡ Err 4
unfolding is_utf8 chars encode
a_space_before_an_escape = refl

an_escape_before_a_space : filter_of_text (codes "(CN=\\z )") ≡ Err 4
unfolding is_utf8 chars encode
an_escape_before_a_space = refl

a_fault_in_a_later_part : filter_of_text (codes "(CN=a*b*\\c)") ≡ Err 8
unfolding is_utf8 chars encode
a_fault_in_a_later_part = refl

octets_of_no_text : filter_of_text (codes "(CN=\\c3)") ≡ Err 4
unfolding is_utf8 chars encode
octets_of_no_text = refl

no_end : filter_of_text (codes "(CN=a") ≡ Err 5
unfolding is_utf8 chars encode
no_end = refl

no_end_of_members : filter_of_text (codes "(&(CN=*)") ≡ Err 8
unfolding is_utf8 chars encode
no_end_of_members = refl

between_members : filter_of_text (codes "(&(CN=*)x(L=*))") ≡ Err 8
unfolding is_utf8 chars encode
between_members = refl

two_under_not : filter_of_text (codes "(!(CN=*)(L=*))") ≡ Err 8
unfolding is_utf8 chars encode
two_under_not = refl

none_under_not : filter_of_text (codes "(!)") ≡ Err 2
none_under_not = refl

behind_the_end : filter_of_text (codes "(&)x") ≡ Err 3
behind_the_end = refl
