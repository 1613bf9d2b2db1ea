-- Attribute types and object identifiers as text: keywords in any case of ASCII, or dotted decimals (X.660).
use Rattle.std.specs.Prelude.{ℕ, ◌^◌, Bool, ◌&&◌, ◌||◌, not, if◌then◌else◌, ◌==◌, nat_lt, List, [], ◌∷◌, length}
use Rattle.std.specs.Prelude.{slice_index, map, Option, None, Some}
use Rattle.std.specs.List.{find, list_all, slice_split, join_with_byte}
use Rattle.std.specs.Char.{is_ascii_digit}
use Rattle.std.specs.Option.{option_map}
use Rattle.std.specs.Str.{str_eq_ignore_ascii_case}
use Rattle.std.specs.Str.Parse.{digits_value}
use Rattle.std.specs.Fmt.{decimal}
use Rattle.x5_model.specs.Values.{Text, TypeRef, Known, Unknown}
use Rattle.x5_model.specs.Types.{Row, table, row_of, in_row, is_known}
use Rattle.x5_model.specs.Normal.{is_oid}

abbrev pub dot : ℕ
dot = 46

-- what is printed of a type of the table
abbrev pub keyword_of : ℕ → Text
keyword_of number = in_row [] (λ r. r.keyword) (row_of number)

-- the row whose keyword the word is
abbrev pub row_of_word : Text → Option Row
row_of_word word = find (λ r. str_eq_ignore_ascii_case word r.keyword) table

-- decimal digits without leading zeros
abbrev pub is_numeral : Text → Bool
is_numeral t = list_all is_ascii_digit t && nat_lt 0 (length t) && ((length t == 1) || not (slice_index t 0 == 48))

-- an arc, below 2^32
abbrev pub arc_of : Text → Option ℕ
arc_of t = if is_numeral t && nat_lt (digits_value 10 t) (2 ^ 32) then Some (digits_value 10 t) else None

abbrev pub cons_both : Option ℕ → Option (List ℕ) → Option (List ℕ)
cons_both None os = None
cons_both (Some n) None = None
cons_both (Some n) (Some ns) = Some (n ∷ ns)

abbrev pub arcs_of : List Text → Option (List ℕ)
arcs_of [] = Some []
arcs_of (t ∷ ts) = cons_both (arc_of t) (arcs_of ts)

abbrev pub if_oid : Option (List ℕ) → Option (List ℕ)
if_oid None = None
if_oid (Some arcs) = if is_oid arcs then Some arcs else None

-- the arcs of an object identifier, and back
abbrev pub oid_of_text : Text → Option (List ℕ)
oid_of_text t = if_oid (arcs_of (slice_split (λ b. b == dot) t))

abbrev pub text_of_oid : List ℕ → Text
text_of_oid arcs = join_with_byte dot (map decimal arcs)

-- the number of a type of the table below 2.5.4
abbrev pub known_below : List ℕ → Option ℕ
known_below (a ∷ b ∷ c ∷ n ∷ []) = if (a == 2) && (b == 5) && (c == 4) && is_known n then Some n else None
known_below arcs = None

abbrev pub type_or : List ℕ → Option ℕ → TypeRef
type_or arcs None = Unknown arcs
type_or arcs (Some n) = Known n

-- the type that an object identifier names, and the object identifier of a type
abbrev pub type_of_arcs : List ℕ → TypeRef
type_of_arcs arcs = type_or arcs (known_below arcs)

abbrev pub arcs_of_type : TypeRef → List ℕ
arcs_of_type (Known n) = 2 ∷ 5 ∷ 4 ∷ n ∷ []
arcs_of_type (Unknown arcs) = arcs

abbrev pub row_or_oid : Option Row → Option (List ℕ) → Option TypeRef
row_or_oid (Some r) o = Some (Known r.number)
row_or_oid None o = option_map type_of_arcs o

-- a type as it's read, and as it's printed
abbrev pub type_of_text : Text → Option TypeRef
type_of_text t = row_or_oid (row_of_word t) (oid_of_text t)

abbrev pub text_of_type : TypeRef → Text
text_of_type (Known n) = keyword_of n
text_of_type (Unknown arcs) = text_of_oid arcs
