-- What a message asks of the directory: a request (X.511), or a result code that it's refused by (RFC 4511,
-- appendix A), the first in this order.
use Rattle.std.specs.Prelude.{ℕ, ◌+◌, Bool, true, false, not, ◌&&◌, ◌||◌, ◌==◌, nat_lt, if◌then◌else◌, List, [], ◌∷◌}
use Rattle.std.specs.Prelude.{map}
use Rattle.std.specs.Prelude.{max, Option, None, Some, option_and_then}
use Rattle.std.specs.List.{list_any}
use Rattle.std.specs.Option.{option_map, is_none}
use Rattle.x5_model.specs.Words.{in_option, is_empty, same_octets}
use Rattle.x5_model.specs.Values.{Value, TextValue, Name, Rdn}
use Rattle.x5_model.specs.Filters as model
use Rattle.x5_model.specs.Assertions.{assertion_of, offered, substring_item_of}
use Rattle.x5_model.specs.Requests as requests
use Rattle.x5_model.specs.Requests.{Subset, Base, OneLevel, WholeSubtree, Selection, All, Only, Request, Body}
use Rattle.x5_model_ldap.specs.Messages.{String, Attribute, Change, Assertion, Piece, Filter, Filters, And, Or, Not}
use Rattle.x5_model_ldap.specs.Messages.{Equality, Substrings, GreaterOrEqual, LessOrEqual, Present, Approximate}
use Rattle.x5_model_ldap.specs.Messages.{Extensible, Nil, More, SearchAsked, Operation, Bind, Unbind, Abandon, Extended}
use Rattle.x5_model_ldap.specs.Messages.{Search, Modify, Add, Delete, ModifyDn, Compare, Message}
use Rattle.x5_model_ldap.specs.Texts.{type_of_word}
use Rattle.x5_model_ldap.specs.Names.{all_of, name_of_text, rdn_of_text}
use Rattle.x5_model_ldap.specs.Values.{text_in, value_of}

-- a request; the code of a refusal; nothing, and nothing is answered; that the user goes
pub data Asked : Type 0 where
  Asks : Request → Asked
  Refused : ℕ → Asked
  Silent : Asked
  End : Asked

abbrev pub protocol_error : ℕ
protocol_error = 2

abbrev pub unavailable_critical_extension : ℕ
unavailable_critical_extension = 12

abbrev pub invalid_attribute_syntax : ℕ
invalid_attribute_syntax = 21

abbrev pub invalid_dn_syntax : ℕ
invalid_dn_syntax = 34

abbrev pub unwilling_to_perform : ℕ
unwilling_to_perform = 53

-- ---- parts of requests; nothing where a value isn't one

abbrev pub assertion_in : Assertion → Option model.Assertion
assertion_in a = option_map (assertion_of (type_of_word a.kind)) (value_of (type_of_word a.kind) a.value)

abbrev pub attribute_in : Attribute → Option requests.Attribute
attribute_in a =
    option_map (λ values. record { kind = type_of_word a.kind; values = map (offered (type_of_word a.kind)) values })
    (all_of (value_of (type_of_word a.kind)) a.values)

-- a part of substrings is a text, whatever the type
abbrev pub piece_in : Piece → Option model.Piece
piece_in p = option_map (λ v. record { place = p.place; value = v }) (text_in p.value)

abbrev pub both : Option model.Filter → Option model.Filters → Option model.Filters
both None fs = None
both (Some f) None = None
both (Some f) (Some fs) = Some (model.More f fs)

abbrev pub item : (model.Assertion → model.Item) → Assertion → Option model.Filter
item make a = option_map (λ x. model.Is (make x)) (assertion_in a)

abbrev mutual
  pub filter_in : Filter → Option model.Filter
  filter_in (And fs) = option_map model.And (filters_in fs)
  filter_in (Or fs) = option_map model.Or (filters_in fs)
  filter_in (Not f) = option_map model.Not (filter_in f)
  filter_in (Equality a) = item model.Equality a
  filter_in (Substrings kind pieces) =
      option_map (λ ps. model.Is (model.Substrings (substring_item_of (type_of_word kind) ps))) (all_of piece_in pieces)
  filter_in (GreaterOrEqual a) = item model.GreaterOrEqual a
  filter_in (LessOrEqual a) = item model.LessOrEqual a
  filter_in (Present kind) = Some (model.Is (model.Present (type_of_word kind)))
  filter_in (Approximate a) = item model.Approximate a
  filter_in Extensible = None

  pub filters_in : Filters → Option model.Filters
  filters_in Nil = Some model.Nil
  filters_in (More f fs) = both (filter_in f) (filters_in fs)

-- an empty list and `*` ask for all attributes; a word that is none asks for none, `1.1` so too (RFC 4511, 4.5.1.8)
abbrev pub asks_for_all : List String → Bool
asks_for_all words = is_empty words || list_any (λ w. same_octets w (42 ∷ [])) words

abbrev pub selection_in : List String → Selection
selection_in words = if asks_for_all words then All else Only (map type_of_word words)

abbrev pub subset_of : ℕ → Subset
subset_of scope = if scope == 0 then Base else if scope == 1 then OneLevel else WholeSubtree

-- 0 is no limit
abbrev pub size_of : ℕ → Option ℕ
size_of n = if n == 0 then None else Some n

-- add and delete; a delete without values is of the whole attribute
abbrev pub change_by : ℕ → Bool → requests.Attribute → requests.Change
change_by operation bare a =
    if operation == 0 then requests.AddValues a
    else if bare then requests.RemoveAttribute a.kind
    else requests.RemoveValues a

abbrev pub change_in : Change → Option requests.Change
change_in c = option_map (change_by c.operation (is_empty c.attribute.values)) (attribute_in c.attribute)

abbrev pub asking : Option ℕ → Body → Request
asking size body = record { controls = record { nocopy = false; nochain = false; size = size }; body = body }

abbrev pub or_bad_value : Option Request → Asked
or_bad_value None = Refused invalid_attribute_syntax
or_bad_value (Some r) = Asks r

-- ---- what is refused

-- filters nest so deep at most
abbrev pub most_levels : ℕ
most_levels = 16

abbrev mutual
  pub nesting : Filter → ℕ
  nesting (And fs) = 1 + deepest fs
  nesting (Or fs) = 1 + deepest fs
  nesting (Not f) = 1 + nesting f
  nesting item = 1

  pub deepest : Filters → ℕ
  deepest Nil = 0
  deepest (More f fs) = max (nesting f) (deepest fs)

abbrev mutual
  pub has_extensible : Filter → Bool
  has_extensible (And fs) = have_extensible fs
  has_extensible (Or fs) = have_extensible fs
  has_extensible (Not f) = has_extensible f
  has_extensible Extensible = true
  has_extensible item = false

  pub have_extensible : Filters → Bool
  have_extensible Nil = false
  have_extensible (More f fs) = has_extensible f || have_extensible fs

abbrev pub is_unwilling : SearchAsked → Bool
is_unwilling s = s.types_only || has_extensible s.filter || nat_lt most_levels (nesting s.filter)

-- an add without values
abbrev pub is_idle : Change → Bool
is_idle c = (c.operation == 0) && is_empty c.attribute.values

abbrev pub replaces : Change → Bool
replaces c = c.operation == 2

-- ---- each operation, whose name is this

abbrev pub with_name : Option Name → (Name → Asked) → Asked
with_name None f = Refused invalid_dn_syntax
with_name (Some n) f = f n

abbrev pub search : SearchAsked → Name → Asked
search s n =
    if is_unwilling s then Refused unwilling_to_perform
    else or_bad_value (option_map (λ f. asking (size_of s.size)
    (requests.Search n (subset_of s.scope) f (selection_in s.attributes))) (filter_in s.filter))

abbrev pub modify : List Change → Name → Asked
modify changes n =
    if list_any replaces changes then Refused unwilling_to_perform
    else or_bad_value (option_map (λ cs. asking None (requests.ModifyEntry n cs)) (all_of change_in changes))

abbrev pub add : List Attribute → Name → Asked
add attributes n = or_bad_value (option_map (λ as'. asking None (requests.AddEntry n as'))
    (all_of attribute_in attributes))

abbrev pub move_by : Bool → Bool → Name → Option Rdn → Asked
move_by drops superior n None = Refused invalid_dn_syntax
move_by drops superior n (Some r) =
    if superior then Refused unwilling_to_perform else Asks (asking None (requests.ModifyDn n r drops))

abbrev pub compare : Assertion → Name → Asked
compare a n = or_bad_value (option_map (λ x. asking None (requests.Compare n x)) (assertion_in a))

abbrev pub asked_by : Operation → Asked
asked_by Bind = Refused unwilling_to_perform
asked_by Unbind = End
asked_by Abandon = Silent
asked_by Extended = Refused protocol_error
asked_by (Search s) = with_name (name_of_text s.base) (search s)
asked_by (Modify object changes) =
    if list_any is_idle changes then Refused protocol_error else with_name (name_of_text object) (modify changes)
asked_by (Add object attributes) = with_name (name_of_text object) (add attributes)
asked_by (Delete object) = with_name (name_of_text object) (λ n. Asks (asking None (requests.RemoveEntry n)))
asked_by (ModifyDn object rdn drops superior) =
    with_name (name_of_text object) (λ n. move_by drops superior n (rdn_of_text rdn))
asked_by (Compare object a) = with_name (name_of_text object) (compare a)

-- a critical control is known to nobody; one of an unbind or an abandon is nothing to them
abbrev pub ask_of : Message → Asked
ask_of m = by m.operation
  where
    by : Operation → Asked
    by Unbind = End
    by Abandon = Silent
    by operation = if m.critical then Refused unavailable_critical_extension else asked_by operation
