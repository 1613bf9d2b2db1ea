-- What single words of a script spell (docs/FORMATS.md, script).
use Rattle.std.specs.Prelude.{ℕ, ◌^◌, Bool, true, false, ◌&&◌, ◌==◌, nat_lt, nat_le, if◌then◌else◌, List, [], ◌∷◌}
use Rattle.std.specs.Prelude.{length, drop, map, Option, Some, None, option_map, option_and_then, codes, nat_eq}
use Rattle.std.specs.List.{list_any, list_all, position, slice_split, starts_with, before_first, after_first}
use Rattle.std.specs.Char.{is_ascii_digit}
use Rattle.std.specs.Result.{result_ok}
use Rattle.std.specs.Str.Parse.{digits_value}
use Rattle.hex.specs.Hex.{decode_of}
use Rattle.x5_model.specs.Words.{is_empty, same_octets}
use Rattle.x5_model.specs.Values.{Text, TypeRef, Value, Name, Rdn}
use Rattle.x5_model.specs.Assertions.{offered}
use Rattle.x5_model.specs.Filters.{Filter}
use Rattle.x5_model.specs.Requests.{Attribute, Change, AddAttribute, RemoveAttribute, AddValues, RemoveValues, Subset}
use Rattle.x5_model.specs.Requests.{Base, OneLevel, WholeSubtree}
use Rattle.x5_model_text.specs.TypeText.{type_of_text}
use Rattle.x5_model_text.specs.NameText.{value_of_text}
use Rattle.x5_model_text.specs.Filters.{filter_of_text}
use Rattle.x5_names.specs.Reading.{stored_name_of_text, stored_rdn_of_text}

abbrev pub is_comma : ℕ → Bool
is_comma b = b == 44

abbrev pub is_equals : ℕ → Bool
is_equals b = b == 61

abbrev pub all_of : {X Y : Type 0} → (X → Option Y) → List X → Option (List Y)
all_of read [] = Some []
all_of read (x ∷ xs) = option_and_then (λ y. option_map (λ ys. y ∷ ys) (all_of read xs)) (read x)

-- the agent of a name: its place
abbrev pub agent_in : List Text → Text → Option ℕ
agent_in names t = position (λ n. same_octets n t) names

abbrev pub name_in : Text → Option Name
name_in t = result_ok (stored_name_of_text t)

abbrev pub rdn_in : Text → Option Rdn
rdn_in t = result_ok (stored_rdn_of_text t)

abbrev pub filter_in : Text → Option Filter
filter_in t = result_ok (filter_of_text t)

abbrev pub octets_in : Text → Option (List ℕ)
octets_in t = result_ok (decode_of t)

abbrev pub are_digits : Text → Bool
are_digits t = list_all is_ascii_digit t

-- a number below 2^32, of so many digits at most, and at least one
abbrev pub is_numeral : ℕ → Text → Bool
is_numeral most t = are_digits t && nat_lt 0 (length t) && nat_le (length t) most

abbrev pub number_in : ℕ → Text → Option ℕ
number_in most t = if is_numeral most t && nat_lt (digits_value 10 t) (2 ^ 32) then Some (digits_value 10 t) else None

abbrev pub in_range : ℕ → ℕ → ℕ → Option ℕ
in_range low high n = if nat_le low n && nat_le n high then Some n else None

-- an agreement's number, of one to seven digits
abbrev pub agreement_in : Text → Option ℕ
agreement_in t = number_in 7 t

-- how far behind the messages sent so far a lost one is: 1 to 1,000,000
abbrev pub loss_in : Text → Option ℕ
loss_in t = option_and_then (in_range 1 1_000_000) (number_in 7 t)

-- `size=N`, N below 2^32
abbrev pub size_in : Text → Option ℕ
size_in t = if starts_with nat_eq t (codes "size=") then number_in 10 (drop 5 t) else None

abbrev pub type_of : Text → Option TypeRef
type_of t = type_of_text t

-- the types of a list with commas; an empty text lists none
abbrev pub types_in : Text → Option (List TypeRef)
types_in t = if is_empty t then Some [] else all_of type_of_text (slice_split is_comma t)

-- `attrs=T,T`
abbrev pub attrs_in : Text → Option (List TypeRef)
attrs_in t = if starts_with nat_eq t (codes "attrs=") then types_in (drop 6 t) else None

abbrev pub value_in : TypeRef → Text → Option Value
value_in kind t = result_ok (value_of_text kind t)

abbrev pub pair_for : Text → TypeRef → Option (TypeRef × Value)
pair_for t kind = option_map (λ v. (kind, v)) (value_in kind t)

-- `T=value`
abbrev pub pair_in : Text → Option (TypeRef × Value)
pair_in t =
    if list_any is_equals t then option_and_then (pair_for (after_first is_equals t))
    (type_of_text (before_first is_equals t)) else None

-- values with commas between them; a comma of a value itself is escaped
abbrev pub values_in : TypeRef → Text → Option (List Value)
values_in kind t = all_of (value_in kind) (slice_split is_comma t)

abbrev pub attribute_of : TypeRef → List Value → Attribute
attribute_of kind values = record { kind = kind; values = map (offered kind) values }

abbrev pub attribute_for : Text → TypeRef → Option Attribute
attribute_for t kind = option_map (attribute_of kind) (values_in kind t)

-- `T=v,v`
abbrev pub attribute_in : Text → Option Attribute
attribute_in t =
    if list_any is_equals t then option_and_then (attribute_for (after_first is_equals t))
    (type_of_text (before_first is_equals t)) else None

-- `new:T=v,v`, `drop:T`, `put:T=v,v` and `cut:T=v,v`
abbrev pub change_in : Text → Option Change
change_in t =
    if starts_with nat_eq t (codes "new:") then option_map AddAttribute (attribute_in (drop 4 t))
    else if starts_with nat_eq t (codes "drop:") then option_map RemoveAttribute (type_of_text (drop 5 t))
    else if starts_with nat_eq t (codes "put:") then option_map AddValues (attribute_in (drop 4 t))
    else if starts_with nat_eq t (codes "cut:") then option_map RemoveValues (attribute_in (drop 4 t))
    else None

abbrev pub subset_in : Text → Option Subset
subset_in t =
    if same_octets t (codes "base") then Some Base
    else if same_octets t (codes "one") then Some OneLevel
    else if same_octets t (codes "tree") then Some WholeSubtree
    else None

-- the first of two words is so, the second isn't
abbrev pub choice_in : Text → Text → Text → Option Bool
choice_in so other t = if same_octets t so then Some true else if same_octets t other then Some false else None

abbrev pub strategy_in : Text → Option Bool
strategy_in t = choice_in (codes "total") (codes "incremental") t

abbrev pub loss_kind_in : Text → Option Bool
loss_kind_in t = choice_in (codes "reply") (codes "message") t

-- `dsp` is the protocol between agents, `dap` that of users
abbrev pub protocol_in : Text → Option Bool
protocol_in t = choice_in (codes "dsp") (codes "dap") t
