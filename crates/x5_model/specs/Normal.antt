-- Which values are of a kind, and their normal forms, by which they are compared (X.520: matching rules; X.501, section
-- 8: matching rules). That equal values have one normal form, and what it looks like as octets, is this project's own.
-- Texts are octets of UTF-8; an octet below U+0080 stands for the character of its number.
use Rattle.std.specs.Prelude.{◌≡◌, ℕ, ◌+◌, ◌*◌, ◌^◌, Bool, true, false, ◌&&◌, ◌||◌, not, if◌then◌else◌, ◌==◌, nat_lt}
use Rattle.std.specs.Prelude.{nat_le, List, [], ◌∷◌, ◌++◌, length, map, sum, filter, flat_map, Option, Some, None}
use Rattle.std.specs.Prelude.{Result, Ok, Err, chars, encode_utf8_all, codes}
use Rattle.std.specs.List.{list_all, list_any}
use Rattle.std.specs.Int.{to_be_bytes, w32}
use Rattle.std.specs.Char.{is_ascii_alphabetic, is_ascii_alphanumeric, is_ascii_digit}
use Rattle.caseless.specs.Caseless.{default_case_fold}
use Rattle.x5_model.specs.Keys.{KeyPair, KeyRdn, Key}
use Rattle.x5_model.specs.Values.{Text, Value, TextValue, OctetsValue, OidValue, NameOf, NameValue, Pair, Rdn, Name}
use Rattle.x5_model.specs.Values.{written_pair, written}
use Rattle.x5_model.specs.Types.{Kind, TextKind, PrintableKind, CountryKind, NumericKind, TelephoneKind, OidKind}
use Rattle.x5_model.specs.Types.{NameKind, OctetsKind, kind_of, may_name}

-- ---- limits, which are this project's own: octets of a value, RDNs of a name, pairs of an RDN

abbrev pub most_octets : ℕ
most_octets = 1024

abbrev pub most_rdns : ℕ
most_rdns = 16

abbrev pub most_pairs : ℕ
most_pairs = 4

-- ---- which characters may stand in a text of a kind, and whether they are enough

abbrev pub is_space : ℕ → Bool
is_space b = b == 32

-- the control characters: those below the space, and DEL
abbrev pub is_control : ℕ → Bool
is_control b = nat_lt b 32 || (b == 127)

-- PrintableString's (X.680, section 41)
abbrev pub is_printable : ℕ → Bool
is_printable b = is_ascii_alphanumeric b || list_any (λ c. c == b) (codes " '()+,-./:=?")

abbrev pub may_stand : Kind → ℕ → Bool
may_stand TextKind b = not (is_control b)
may_stand PrintableKind b = is_printable b
may_stand CountryKind b = is_ascii_alphabetic b
may_stand NumericKind b = is_ascii_digit b || is_space b
may_stand TelephoneKind b = is_printable b
may_stand OidKind b = false
may_stand NameKind b = false
may_stand OctetsKind b = false

-- one or more characters; a country has two, and a numeric string a digit
abbrev pub is_enough : Kind → Text → Bool
is_enough TextKind t = nat_lt 0 (length t)
is_enough PrintableKind t = nat_lt 0 (length t)
is_enough CountryKind t = length t == 2
is_enough NumericKind t = list_any is_ascii_digit t
is_enough TelephoneKind t = nat_lt 0 (length t)
is_enough OidKind t = false
is_enough NameKind t = false
is_enough OctetsKind t = false

-- a part of a text of the kind, as in a substrings item: its characters may stand there, however few
abbrev pub is_part_of_kind : Kind → Text → Bool
is_part_of_kind k t = list_all (may_stand k) t

abbrev pub is_text_of_kind : Kind → Text → Bool
is_text_of_kind k t = is_part_of_kind k t && is_enough k t

-- ---- normal forms of texts

-- the default case folding of the characters (The Unicode Standard, section 3.13)
unfoldable pub folded : Text → Text
folded t = encode_utf8_all (default_case_fold (chars t))

abbrev pub without_leading : Text → Text
without_leading [] = []
without_leading (b ∷ bs) = if is_space b then without_leading bs else b ∷ bs

-- a space goes where these follow it: another space, or, where the end is the value's end, nothing
abbrev pub drops_space_before : Bool → Text → Bool
drops_space_before last [] = last
drops_space_before last (b ∷ bs) = is_space b

-- each run of spaces is one space, and at the value's end none
abbrev pub single_spaced : Bool → Text → Text
single_spaced last [] = []
single_spaced last (b ∷ bs) =
    if is_space b && drops_space_before last bs then single_spaced last bs else b ∷ single_spaced last bs

-- `first` says that the text begins the value, `last` that it ends it
abbrev pub spaced : Bool → Bool → Text → Text
spaced first last t = single_spaced last (if first then without_leading t else t)

abbrev pub is_dialled : ℕ → Bool
is_dialled b = not (is_space b || (b == 45))

-- the normal form of a part of a text (X.520: caseIgnoreMatch, numericStringMatch, telephoneNumberMatch and their
-- substrings)
abbrev pub part_normal : Kind → Bool → Bool → Text → List ℕ
part_normal TextKind first last t = spaced first last (folded t)
part_normal PrintableKind first last t = spaced first last (folded t)
part_normal CountryKind first last t = spaced first last (folded t)
part_normal NumericKind first last t = filter (λ b. not (is_space b)) t
part_normal TelephoneKind first last t = filter is_dialled (spaced first last (folded t))
part_normal OidKind first last t = t
part_normal NameKind first last t = t
part_normal OctetsKind first last t = t

abbrev pub text_normal : Kind → Text → List ℕ
text_normal k t = part_normal k true true t

-- ---- object identifiers (X.660)

-- two arcs or more, each below 2^32 (this project's limit); the first below 3, and below 40 the second where the first
-- is below 2
abbrev pub is_oid : List ℕ → Bool
is_oid [] = false
is_oid (a ∷ []) = false
is_oid (a ∷ b ∷ arcs) = nat_lt a 3 && (nat_lt 1 a || nat_lt b 40) && list_all (λ n. nat_lt n (2 ^ 32)) (a ∷ b ∷ arcs)

-- how many octets a subidentifier takes (X.690, section 8.19: seven bits an octet)
abbrev pub subidentifier_len : ℕ → ℕ
subidentifier_len n = if nat_lt n (2 ^ 7) then 1 else if nat_lt n (2 ^ 14) then 2 else if nat_lt n (2 ^ 21) then 3
    else if nat_lt n (2 ^ 28) then 4 else 5

-- the two first arcs are one subidentifier
abbrev pub oid_content_len : List ℕ → ℕ
oid_content_len [] = 0
oid_content_len (a ∷ []) = 0
oid_content_len (a ∷ b ∷ arcs) = subidentifier_len (40 * a + b) + sum (map subidentifier_len arcs)

-- four octets an arc, high octet first
abbrev pub oid_normal : List ℕ → List ℕ
oid_normal arcs = flat_map (to_be_bytes w32) arcs

-- ---- names

-- the type may name, and the text is of its kind
abbrev pub is_pair : ℕ × Text → Bool
is_pair p = may_name p.0 && is_text_of_kind (kind_of p.0) p.1

-- the types stand in the order of their numbers, each once, and the first is this number or above
abbrev pub ascends_from : ℕ → List (ℕ × Text) → Bool
ascends_from least [] = true
ascends_from least (p ∷ r) = nat_le least p.0 && ascends_from (p.0 + 1) r

abbrev pub ascends : List (ℕ × Text) → Bool
ascends r = ascends_from 0 r

abbrev pub is_rdn : List (ℕ × Text) → Bool
is_rdn r = nat_lt 0 (length r) && list_all is_pair r && ascends r

abbrev pub is_name : NameValue → Bool
is_name n = list_all is_rdn n

abbrev pub first_found : Option ℕ → Option ℕ → Option ℕ
first_found None o = o
first_found (Some n) o = Some n

abbrev pub over : ℕ → ℕ → Option ℕ
over most n = if nat_lt most n then Some most else None

-- the first limit that the pairs pass, with `before` pairs before them; so of RDNs
abbrev pub rdn_over : ℕ → List (ℕ × Text) → Option ℕ
rdn_over before [] = None
rdn_over before (p ∷ r) =
    first_found (over most_pairs (before + 1)) (first_found (over most_octets (length p.1)) (rdn_over (before + 1) r))

abbrev pub name_over : ℕ → NameValue → Option ℕ
name_over before [] = None
name_over before (r ∷ n) =
    first_found (over most_rdns (before + 1)) (first_found (rdn_over 0 r) (name_over (before + 1) n))

abbrev pub normal_pair : ℕ × Text → KeyPair
normal_pair p = (p.0, text_normal (kind_of p.0) p.1)

-- the key of a name, from the texts as they are written
abbrev pub written_key : NameValue → Key
written_key n = map (map normal_pair) n

-- a key as octets: of each pair the type's number, the normal value and a zero, and a zero after each RDN
abbrev pub pair_octets : KeyPair → List ℕ
pair_octets p = p.0 ∷ (p.1 ++ 0 ∷ [])

abbrev pub rdn_octets : KeyRdn → List ℕ
rdn_octets r = flat_map pair_octets r ++ 0 ∷ []

abbrev pub key_octets : Key → List ℕ
key_octets k = flat_map rdn_octets k

-- ---- values

abbrev pub is_of_kind : Kind → Value → Bool
is_of_kind k (TextValue t) = is_text_of_kind k t
is_of_kind OctetsKind (OctetsValue bs) = true
is_of_kind OidKind (OidValue arcs) = is_oid arcs
is_of_kind NameKind (NameOf n) = is_name n
is_of_kind k v = false

-- the first limit that a value passes, whatever its type
abbrev pub value_over : Value → Option ℕ
value_over (TextValue t) = over most_octets (length t)
value_over (OctetsValue bs) = over most_octets (length bs)
value_over (OidValue arcs) = over most_octets (oid_content_len arcs)
value_over (NameOf n) = name_over 0 n

-- of a value of the kind; others have none
abbrev pub normal_form : Kind → Value → List ℕ
normal_form k (TextValue t) = text_normal k t
normal_form k (OctetsValue bs) = bs
normal_form k (OidValue arcs) = oid_normal arcs
normal_form k (NameOf n) = key_octets (written_key n)

-- a value isn't of the kind, or it is and passes a limit, which is told
pub data ValueFault : Type 0 where
  WrongSyntax : ValueFault
  TooLong : ℕ → ValueFault

abbrev pub within : {X : Type 0} → Option ℕ → X → Result X ValueFault
within None x = Ok x
within (Some most) x = Err (TooLong most)

-- the normal form that a value has for a kind
abbrev pub normal_of : Kind → Value → Result (List ℕ) ValueFault
normal_of k v = if is_of_kind k v then within (value_over v) (normal_form k v) else Err WrongSyntax

-- the normal form of a part of a value, for kinds that have substrings
abbrev pub part_normal_of : Kind → Bool → Bool → Value → Result (List ℕ) ValueFault
part_normal_of k first last (TextValue t) =
    if is_part_of_kind k t then within (over most_octets (length t)) (part_normal k first last t) else Err WrongSyntax
part_normal_of k first last v = Err WrongSyntax

-- ---- names with their normal forms

abbrev pub stored_pair : ℕ × Text → Pair
stored_pair p = record { kind = p.0; text = p.1; normal = text_normal (kind_of p.0) p.1 }

abbrev pub stored_rdn : List (ℕ × Text) → Rdn
stored_rdn r = map stored_pair r

abbrev pub stored : NameValue → Name
stored n = map stored_rdn n

abbrev pub written_rdn : Rdn → List (ℕ × Text)
written_rdn r = map written_pair r

-- an RDN as names have it: of types that may name, in their order, within the limits; each normal form is its text's
pub record IsStoredRdn (r : Rdn) : Type 0 where
  pub valid : is_rdn (written_rdn r) ≡ true
  pub short : rdn_over 0 (written_rdn r) ≡ None
  pub normal : r ≡ stored_rdn (written_rdn r)

pub record IsStored (n : Name) : Type 0 where
  pub valid : is_name (written n) ≡ true
  pub short : name_over 0 (written n) ≡ None
  pub normal : n ≡ stored (written n)
