-- Names as text in LDAP (RFC 4514): the last RDN first, `,` between RDNs and `+` between pairs. The octets are those of
-- UTF-8; in a value a backslash stands before a special character, which then stands for itself, or before two
-- hexadecimal digits, which stand for one octet.
use Rattle.std.specs.Prelude.{ℕ, ◌+◌, ◌*◌, Bool, true, false, ◌&&◌, ◌||◌, not, ◌==◌, nat_lt, nat_le, if◌then◌else◌}
use Rattle.std.specs.Prelude.{List, []}
use Rattle.std.specs.Prelude.{◌∷◌, ◌++◌, length, map, reverse, codes, Option, None, Some, option_and_then}
use Rattle.std.specs.List.{list_any, list_all, slice_split, before_first, after_first, join_with_byte, flat_map}
use Rattle.std.specs.Option.{option_map}
use Rattle.hex.specs.Hex.{hex_digit_value}
use Rattle.x5_model.specs.Words.{distinct, in_option, first_of, last_of, is_empty}
use Rattle.x5_model.specs.Values.{Text, TypeRef, Known, Unknown, NameValue, Name, Rdn}
use Rattle.x5_model.specs.Types.{may_name}
use Rattle.x5_model.specs.Normal.{most_rdns, most_pairs, stored, stored_rdn}
use Rattle.x5_model_text.specs.TypeText.{keyword_of}
use Rattle.x5_model_text.specs.NameText.{fits_type, sorted}
use Rattle.x5_model_ldap.specs.Texts.{type_of_word}

-- ---- reading

-- an octet of a value, and whether it was escaped
pub record Cell : Type 0 where
  pub octet : ℕ
  pub escaped : Bool

abbrev pub backslash : ℕ
backslash = 92

abbrev pub stands_for_itself : ℕ → Bool
stands_for_itself b = list_any (λ c. c == b) (codes "\"+,;<>=#\\ ")

abbrev pub cell : Bool → ℕ → Cell
cell escaped b = record { octet = b; escaped = escaped }

abbrev pub before_cells : Option Cell → Option (List Cell) → Option (List Cell)
before_cells None cs = None
before_cells (Some c) None = None
before_cells (Some c) (Some cs) = Some (c ∷ cs)

abbrev pub octet_of : Option ℕ → Option ℕ → Option Cell
octet_of None l = None
octet_of (Some h) None = None
octet_of (Some h) (Some l) = Some (cell true (16 * h + l))

-- the octets of a text with its escapes resolved; nothing where a backslash stands before neither
abbrev pub cells_of : Text → Option (List Cell)
cells_of [] = Some []
cells_of (a ∷ []) = if backslash == a then None else Some (cell false a ∷ [])
cells_of (a ∷ b ∷ []) =
    if backslash == a then (if stands_for_itself b then Some (cell true b ∷ []) else None)
    else before_cells (Some (cell false a)) (cells_of (b ∷ []))
cells_of (a ∷ b ∷ c ∷ rest) =
    if backslash == a
    then (if stands_for_itself b then before_cells (Some (cell true b)) (cells_of (c ∷ rest))
    else before_cells (octet_of (hex_digit_value b) (hex_digit_value c)) (cells_of rest))
    else before_cells (Some (cell false a)) (cells_of (b ∷ c ∷ rest))

-- the octet itself, not escaped
abbrev pub is_bare : ℕ → Cell → Bool
is_bare b c = not c.escaped && (b == c.octet)

-- what can't stand in a value but escaped: anywhere, at its beginning, and at its end
abbrev pub is_forbidden : Cell → Bool
is_forbidden c = list_any (λ b. is_bare b c) (codes "\";<>")

abbrev pub begins_badly : List Cell → Bool
begins_badly cs = in_option false (λ c. is_bare 32 c || is_bare 35 c) (first_of cs)

abbrev pub ends_badly : List Cell → Bool
ends_badly cs = in_option false (is_bare 32) (last_of cs)

abbrev pub octets_of : List Cell → Text
octets_of cs = map (λ c. c.octet) cs

-- a value of a type that may name
abbrev pub value_of : ℕ → List Cell → Option (ℕ × Text)
value_of number cs =
    if not (list_any is_forbidden cs) && not (begins_badly cs) && not (ends_badly cs)
    && fits_type true number (octets_of cs) then Some (number, octets_of cs) else None

abbrev pub value_for : TypeRef → List Cell → Option (ℕ × Text)
value_for (Known number) cs = if may_name number then value_of number cs else None
value_for (Unknown arcs) cs = None

-- a type, `=` and a value; nothing in the type is escaped
abbrev pub pair_of : List Cell → Option (ℕ × Text)
pair_of cs =
    if list_any (is_bare 61) cs && list_all (λ c. not c.escaped) (before_first (is_bare 61) cs)
    then value_for (type_of_word (octets_of (before_first (is_bare 61) cs))) (after_first (is_bare 61) cs) else None

abbrev pub all_of : {X Y : Type 0} → (X → Option Y) → List X → Option (List Y)
all_of read [] = Some []
all_of read (x ∷ xs) = option_and_then (λ y. option_map (λ ys. y ∷ ys) (all_of read xs)) (read x)

abbrev pub same_type : ℕ × Text → ℕ × Text → Bool
same_type p q = p.0 == q.0

-- one to four pairs of different types, kept in the order of the types
abbrev pub if_rdn : List (ℕ × Text) → Option (List (ℕ × Text))
if_rdn r = if nat_le (length r) most_pairs && distinct same_type r then Some (sorted r) else None

abbrev pub rdn_of : List Cell → Option (List (ℕ × Text))
rdn_of cs = option_and_then if_rdn (all_of pair_of (slice_split (is_bare 43) cs))

-- sixteen RDNs at most, from the root
abbrev pub if_name : List (List (ℕ × Text)) → Option NameValue
if_name rdns = if nat_le (length rdns) most_rdns then Some (reverse rdns) else None

abbrev pub name_in : List Cell → Option NameValue
name_in [] = Some []
name_in (c ∷ cs) = option_and_then if_name (all_of rdn_of (slice_split (is_bare 44) (c ∷ cs)))

-- a name; the empty text is the root
abbrev pub name_of_dn : Text → Option NameValue
name_of_dn t = option_and_then name_in (cells_of t)

-- an RDN alone
abbrev pub rdn_alone : List Cell → Option (List (ℕ × Text))
rdn_alone cs = if list_any (is_bare 44) cs then None else rdn_of cs

abbrev pub rdn_of_dn : Text → Option (List (ℕ × Text))
rdn_of_dn t = option_and_then rdn_alone (cells_of t)

-- with the normal forms
abbrev pub name_of_text : Text → Option Name
name_of_text t = option_map stored (name_of_dn t)

abbrev pub rdn_of_text : Text → Option Rdn
rdn_of_text t = option_map stored_rdn (rdn_of_dn t)

-- ---- writing: special characters are escaped, and so are a space or `#` at the beginning and a space at the end

abbrev pub is_special : ℕ → Bool
is_special b = list_any (λ c. c == b) (codes "\"+,;<>\\")

abbrev pub escaped_if : Bool → ℕ → Text
escaped_if true b = backslash ∷ b ∷ []
escaped_if false b = b ∷ []

-- behind the first octet
abbrev pub escaped_behind : Text → Text
escaped_behind [] = []
escaped_behind (b ∷ []) = escaped_if (is_special b || (32 == b)) b
escaped_behind (b ∷ c ∷ t) = escaped_if (is_special b) b ++ escaped_behind (c ∷ t)

abbrev pub escaped : Text → Text
escaped [] = []
escaped (b ∷ t) = escaped_if (is_special b || (32 == b) || (35 == b)) b ++ escaped_behind t

abbrev pub dn_of_pair : ℕ × Text → Text
dn_of_pair p = keyword_of p.0 ++ 61 ∷ escaped p.1

abbrev pub dn_of_rdn : List (ℕ × Text) → Text
dn_of_rdn r = join_with_byte 43 (map dn_of_pair r)

abbrev pub dn_of_name : NameValue → Text
dn_of_name n = join_with_byte 44 (map dn_of_rdn (reverse n))
