-- The text of a value: escapes, and what the resolved text stands for by the type's kind.
use Rattle.std.specs.Prelude.{ℕ, ◌+◌, ◌*◌, ◌/◌, ◌%◌, Bool, ◌||◌, if◌then◌else◌, ◌==◌, nat_lt, List, [], ◌∷◌, ◌++◌}
use Rattle.std.specs.Prelude.{length, flat_map, Option, None, Some, Result, Ok, Err, codes}
use Rattle.std.specs.List.{list_any, position, slice_split}
use Rattle.std.specs.Option.{option_map}
use Rattle.std.specs.Result.{result_ok}
use Rattle.std.specs.Char.{digit_char}
use Rattle.hex.specs.Hex.{hex_digit_value, decode_of}
use Rattle.x5_model.specs.Values.{Text, Value, TextValue, OctetsValue, OidValue}
use Rattle.x5_model.specs.Normal.{is_control, ValueFault, within, value_over}
use Rattle.x5_model_text.specs.TypeText.{oid_of_text}

abbrev pub backslash : ℕ
backslash = 92

-- ---- printing

-- what is printed as an escape: space / + = \ ( ) * , ; and control characters
abbrev pub is_escaped : ℕ → Bool
is_escaped b = is_control b || list_any (λ c. c == b) (codes " /+=\\()*,;")

abbrev pub escaped_octet : ℕ → Text
escaped_octet b = if is_escaped b then backslash ∷ digit_char (b / 16) ∷ digit_char (b % 16) ∷ [] else b ∷ []

abbrev pub escaped : Text → Text
escaped t = flat_map escaped_octet t

-- ---- reading: the text with its escapes resolved, or the place of the first octet that can't stand there.
-- The text is cut at its backslashes: the first part stands for itself, and each other one begins with two
-- hexadecimal digits, which stand for one octet.

abbrev pub at_place : ℕ → Text → Option ℕ → Result Text ℕ
at_place at t None = Ok t
at_place at t (Some i) = Err (at + i)

-- octets that stand for themselves, the first of them at the place: no control characters
abbrev pub plain_at : ℕ → Text → Result Text ℕ
plain_at at t = at_place at t (position is_control t)

abbrev pub octet_of : Option ℕ → Option ℕ → Option ℕ
octet_of None l = None
octet_of (Some h) None = None
octet_of (Some h) (Some l) = Some (16 * h + l)

abbrev pub octet_before : ℕ → Option ℕ → Result Text ℕ → Result Text ℕ
octet_before at None rest = Err at
octet_before at (Some octet) (Ok rest) = Ok (octet ∷ rest)
octet_before at (Some octet) (Err place) = Err place

-- what stands behind a backslash at the place, up to the next
abbrev pub escape_at : ℕ → Text → Result Text ℕ
escape_at at [] = Err at
escape_at at (h ∷ []) = Err at
escape_at at (h ∷ l ∷ rest) =
    octet_before at (octet_of (hex_digit_value h) (hex_digit_value l)) (plain_at (at + 3) rest)

abbrev pub joined : Result Text ℕ → Result Text ℕ → Result Text ℕ
joined (Err place) rest = Err place
joined (Ok t) (Ok u) = Ok (t ++ u)
joined (Ok t) (Err place) = Err place

abbrev pub escapes_at : ℕ → List Text → Result Text ℕ
escapes_at at [] = Ok []
escapes_at at (t ∷ ts) = joined (escape_at at t) (escapes_at (at + length t + 1) ts)

abbrev pub parts_at : ℕ → List Text → Result Text ℕ
parts_at at [] = Ok []
parts_at at (t ∷ ts) = joined (plain_at at t) (escapes_at (at + length t) ts)

-- the text at the place, resolved
abbrev pub resolved : ℕ → Text → Result Text ℕ
resolved at t = parts_at at (slice_split (λ b. b == backslash) t)

-- ---- what a resolved text stands for

abbrev pub or_text : Text → Option Value → Value
or_text t None = TextValue t
or_text t (Some v) = v

-- the octets of a text of hexadecimal digits, and not of the empty text
abbrev pub octets_of_text : Text → Option (List ℕ)
octets_of_text t = if nat_lt 0 (length t) then result_ok (decode_of t) else None

abbrev pub bounded : Value → Result Value ValueFault
bounded v = within (value_over v) v

abbrev pub oid_or_text : Text → Result Value ValueFault
oid_or_text t = bounded (or_text t (option_map OidValue (oid_of_text t)))

abbrev pub octets_or_text : Text → Result Value ValueFault
octets_or_text t = bounded (or_text t (option_map OctetsValue (octets_of_text t)))
