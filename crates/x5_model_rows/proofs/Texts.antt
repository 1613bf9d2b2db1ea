-- Names, values, filters and agents' names as text, beside the examples of x5_model_text: each line computes.
use Rattle.std.proofs.Common.{◌≡◌, ℕ, true, false, [], ◌∷◌, ◌++◌, Result, Ok, Err, codes, refl}
use Rattle.std.specs.Fmt.{digits}
use Rattle.std.specs.Str.{chars, is_utf8}
use lib.Utf8.{encode}
use Rattle.x5_model.specs.Values.{Text, Known, NameValue, Value}
use Rattle.x5_model.specs.Normal.{ValueFault}
use Rattle.x5_model_text.specs.ValueText.{resolved}
use Rattle.x5_model_text.specs.NameText.{NameFault, BadSpelling, UnknownType, RepeatedType, TooManyRdns, TooManyPairs}
use Rattle.x5_model_text.specs.NameText.{name_of_text, text_of_written, text_of_value, value_of_text}
use Rattle.x5_model_text.specs.Filters.{filter_of_text}
use Rattle.x5_model_tree.specs.Described.{is_agent_name}

-- ---- names in any spelling, and the first fault of a text that is none

abbrev name_printed : Result NameValue NameFault → Result Text NameFault
name_printed (Ok n) = Ok (text_of_written n)
name_printed (Err e) = Err e

pub any_spelling : name_printed (name_of_text (codes "/c=nl/2.5.4.10=Ex ample")) ≡ Ok (codes "/C=nl/O=Ex\\20ample")
unfolding is_utf8 chars encode
any_spelling = refl

pub four_pairs_sorted : name_printed (name_of_text (codes "/OU=b+cN=a+title=t+L=l"))
    ≡ Ok (codes "/CN=a+L=l+OU=b+title=t")
unfolding is_utf8 chars encode
four_pairs_sorted = refl

pub escaped_octets : name_printed (name_of_text (codes "/CN=\\c3\\9f")) ≡ Ok (codes "/CN=" ++ 195 ∷ 159 ∷ [])
unfolding is_utf8 chars encode
escaped_octets = refl

pub no_octets : name_of_text [] ≡ Err (BadSpelling 0)
no_octets = refl

pub half_an_escape : name_of_text (codes "/CN=ab\\2") ≡ Err (BadSpelling 6)
unfolding is_utf8 chars encode
half_an_escape = refl

pub a_control : name_of_text (47 ∷ 67 ∷ 78 ∷ 61 ∷ 97 ∷ 127 ∷ []) ≡ Err (BadSpelling 5)
unfolding is_utf8 chars encode
a_control = refl

pub no_value : name_of_text (codes "/CN=") ≡ Err (BadSpelling 4)
unfolding is_utf8 chars encode
no_value = refl

pub no_keyword : name_of_text (codes "/commonName=a") ≡ Err UnknownType
no_keyword = refl

pub type_twice : name_of_text (codes "/CN=a+2.5.4.3=b") ≡ Err RepeatedType
unfolding is_utf8 chars encode
type_twice = refl

pub five_pairs : name_of_text (codes "/CN=a+SN=b+L=c+O=d+OU=e") ≡ Err TooManyPairs
unfolding is_utf8 chars encode
five_pairs = refl

pub seventeen_rdns : name_of_text (codes "/L=1/L=2/L=3/L=4/L=5/L=6/L=7/L=8/L=9/L=a/L=b/L=c/L=d/L=e/L=f/L=g/L=h")
    ≡ Err TooManyRdns
unfolding is_utf8 chars encode
seventeen_rdns = refl

-- ---- values printed as they are read

abbrev printed : Result Value ValueFault → Result Text ValueFault
printed (Ok v) = Ok (text_of_value v)
printed (Err e) = Err e

abbrev read_as : ℕ → Text → Result Text ValueFault
read_as kind t = printed (value_of_text (Known kind) t)

pub escapes : read_as 3 (codes "a\\2Fb\\2bc") ≡ Ok (codes "a\\2fb\\2bc")
unfolding is_utf8 chars encode
escapes = refl

pub an_identifier : read_as 0 (codes "2.5.6.6") ≡ Ok (codes "2.5.6.6")
unfolding is_utf8 chars encode digits
an_identifier = refl

pub no_identifier : read_as 0 (codes "2.5.6.06") ≡ Ok (codes "2.5.6.06")
unfolding is_utf8 chars encode
no_identifier = refl

pub an_odd_octet : read_as 35 (codes "abc") ≡ Ok (codes "abc")
unfolding is_utf8 chars encode
an_odd_octet = refl

pub a_name : read_as 31 (codes "\\2fC\\3dNL\\2fCN\\3da\\5c20b") ≡ Ok (codes "\\2fC\\3dNL\\2fCN\\3da\\5c20b")
unfolding is_utf8 chars encode
a_name = refl

pub no_name : read_as 31 (codes "\\2fCN\\3da\\2bcn\\3db") ≡ Ok (codes "\\2fCN\\3da\\2bcn\\3db")
unfolding is_utf8 chars encode
no_name = refl

pub no_escape : resolved 3 (codes "a\\2") ≡ Err 4
no_escape = refl

-- ---- the first octet of a filter that can't stand at its place

pub nothing_behind_a_bracket : filter_of_text (codes "(") ≡ Err 1
nothing_behind_a_bracket = refl

pub an_escape_behind_a_letter : filter_of_text (codes "(CN=a\\2)") ≡ Err 5
unfolding is_utf8 chars encode
an_escape_behind_a_letter = refl

pub nothing_approximate : filter_of_text (codes "(CN~=)") ≡ Err 5
unfolding is_utf8 chars encode
nothing_approximate = refl

pub no_keyword_of_a_filter : filter_of_text (codes "(foo=a)") ≡ Err 1
no_keyword_of_a_filter = refl

pub a_second_arc_of_40 : filter_of_text (codes "(1.40=a)") ≡ Err 1
a_second_arc_of_40 = refl

pub a_letter_behind_a_member : filter_of_text (codes "(&(CN=*)x)") ≡ Err 8
unfolding is_utf8 chars encode
a_letter_behind_a_member = refl

pub a_space_behind_the_end : filter_of_text (codes "(|(CN=*)) ") ≡ Err 9
unfolding is_utf8 chars encode
a_space_behind_the_end = refl

pub a_second_filter : filter_of_text (codes "(&)(|)") ≡ Err 3
a_second_filter = refl

pub nesting_17_of_one : filter_of_text (codes "(!(!(!(!(!(!(!(!(!(!(!(!(!(!(!(|(L=*))))))))))))))))))") ≡ Err 32
nesting_17_of_one = refl

pub nesting_17_of_two : filter_of_text (codes "(!(!(!(!(!(!(!(!(!(!(!(!(!(!(|(L=*)(!(O=*)))))))))))))))))") ≡ Err 37
unfolding is_utf8 chars encode
nesting_17_of_two = refl

-- ---- agents' names: letters, digits and `-`, the first a letter, 32 at most, and not `user`

pub a_plain_name : is_agent_name (codes "Alpha") ≡ true
a_plain_name = refl

pub a_digit_behind : is_agent_name (codes "a-1") ≡ true
a_digit_behind = refl

pub a_capital : is_agent_name (codes "User") ≡ true
a_capital = refl

pub a_digit_first : is_agent_name (codes "1a") ≡ false
a_digit_first = refl

pub a_dash_first : is_agent_name (codes "-a") ≡ false
a_dash_first = refl

pub an_empty_name : is_agent_name (codes "") ≡ false
an_empty_name = refl

pub a_space : is_agent_name (codes "a b") ≡ false
a_space = refl

pub thirty_two_letters : is_agent_name (codes "abcdefghijklmnopqrstuvwxyzabcdef") ≡ true
thirty_two_letters = refl

pub thirty_three_letters : is_agent_name (codes "abcdefghijklmnopqrstuvwxyzabcdefg") ≡ false
thirty_three_letters = refl
