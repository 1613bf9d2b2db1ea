-- What values of types have to be as wholes, and as what they are kept.
use Rattle.std.specs.Prelude.{ℕ, pos, Bool, true, false, not, ◌&&◌, ◌||◌, ◌==◌, nat_lt, nat_le, List, [], ◌∷◌, length}
use Rattle.std.specs.Prelude.{map}
use Rattle.std.specs.List.{list_all}
use Rattle.std.specs.declared.option.Option.{Option}
use Rattle.std.specs.declared.option.Option.TheVariants.{None, Some}
use Rattle.x5_model.specs.Words.{in_option, is_empty, distinct, sorted, same_octets, octets_below}
use Rattle.x5_model.specs.Keys.{same_key}
use Rattle.x5_model.specs.Values.{Text, NameValue, Value, TextValue, OctetsValue, OidValue, NameOf}
use Rattle.x5_model.specs.Types.{may_name, kind_of}
use Rattle.x5_model.specs.Normal as normal
use Rattle.x5_model.specs.Normal.{is_of_kind, normal_form, written_key}
use Rattle.x5_model_text.specs.TypeText.{known_below}
use Rattle.x5_model_typed.specs.Nodes as nodes
use Rattle.x5_model_typed.specs.Nodes.{Node, Nodes, Vacant, Flag, Number, Oid, Bits, Octets, Chosen, Many, list, row}
use Rattle.x5_model_typed.specs.Nodes.{parts, is_vacant}
use Rattle.x5_model_typed.specs.Leaves.{where_so}

abbrev pub where_test : (Node → Bool) → Node → Option Node
where_test test n = where_so (test n) n

-- ---- what nodes say

-- the number of a type that agents know
abbrev pub known_type : Node → Option ℕ
known_type (Oid arcs) = known_below arcs
known_type n = None

abbrev pub type_number : Node → ℕ
type_number n = in_option 0 (λ k. k) (known_type n)

abbrev pub text_in : Node → Text
text_in (nodes.Text t) = t
text_in n = []

abbrev pub pair_in : Node → ℕ × Text
pair_in p = by (parts p)
  where
    by : List Node → ℕ × Text
    by (type ∷ value ∷ []) = (type_number type, text_in value)
    by other = (0, [])

abbrev pub rdn_in : Node → List (ℕ × Text)
rdn_in r = map pair_in (parts r)

abbrev pub name_in : Node → NameValue
name_in n = map rdn_in (parts n)

abbrev pub value_in : Node → Value
value_in (nodes.Text t) = TextValue t
value_in (Octets o) = OctetsValue o
value_in (Oid arcs) = OidValue arcs
value_in n = NameOf (name_in n)

-- ---- names

-- a pair's type is one that may name, and its value is of the type's kind
abbrev pub is_pair : Node → Bool
is_pair p = by (parts p)
  where
    by_type : Node → Option ℕ → Bool
    by_type value None = false
    by_type value (Some k) = may_name k && is_of_kind (kind_of k) (value_in value)

    by : List Node → Bool
    by (type ∷ value ∷ []) = by_type value (known_type type)
    by other = false

abbrev pub pair_below : Node → Node → Bool
pair_below p q = nat_lt (pair_in p).0 (pair_in q).0

abbrev pub same_type : Node → Node → Bool
same_type p q = (pair_in p).0 == (pair_in q).0

-- one to four pairs of different types, kept in the order of the types
abbrev pub rdn_rule : Node → Option Node
rdn_rule r =
    where_so (nat_lt 0 (length (parts r)) && nat_le (length (parts r)) normal.most_pairs
    && distinct same_type (parts r))
    (Many (row (sorted pair_below (parts r))))

abbrev pub name_rule : Node → Option Node
name_rule = where_test (λ n. nat_le (length (parts n)) normal.most_rdns)

abbrev pub pair_rule : Node → Option Node
pair_rule = where_test is_pair

-- ---- requests

abbrev pub some_members : Node → Option Node
some_members = where_test (λ n. not (is_empty (parts n)))

-- priority and timeLimit aren't kept
abbrev pub controls_rule : Node → Option Node
controls_rule n = by (parts n)
  where
    by : List Node → Option Node
    by (options ∷ priority ∷ time ∷ size ∷ []) = Some (Many (row (options ∷ Vacant ∷ Vacant ∷ size ∷ [])))
    by other = None

-- a part of a substrings item is a text
abbrev pub is_text : Node → Bool
is_text (nodes.Text t) = true
is_text n = false

abbrev pub text_rule : Node → Option Node
text_rule = where_test is_text

-- one or more parts; an initial one is the first, a final one the last
abbrev pub is_initial : Node → Bool
is_initial (Chosen tag n) = tag == 0
is_initial n = false

abbrev pub is_final : Node → Bool
is_final (Chosen tag n) = tag == 2
is_final n = false

abbrev pub in_their_places : List Node → Bool
in_their_places [] = true
in_their_places (p ∷ []) = true
in_their_places (p ∷ q ∷ ps) = not (is_final p) && not (is_initial q) && in_their_places (q ∷ ps)

abbrev pub parts_rule : Node → Option Node
parts_rule = where_test (λ n. not (is_empty (parts n)) && in_their_places (parts n))

-- the same of parts that have their places before them (RFC 4511, section 4.5.1.7.2)
abbrev pub place_in : Node → ℕ
place_in p = by (parts p)
  where
    by : List Node → ℕ
    by (Number (pos k) ∷ octets ∷ []) = k
    by other = 1

abbrev pub in_line : List Node → Bool
in_line [] = true
in_line (p ∷ []) = true
in_line (p ∷ q ∷ ps) = not (place_in p == 2) && not (place_in q == 0) && in_line (q ∷ ps)

abbrev pub pieces_rule : Node → Option Node
pieces_rule = where_test (λ n. not (is_empty (parts n)) && in_line (parts n))

-- ---- distributed operation

-- the next RDN is there exactly in phase 2
abbrev pub is_proceeding : Node → Bool
is_proceeding (Number (pos n)) = n == 2
is_proceeding n = false

abbrev pub progress_rule : Node → Option Node
progress_rule n = by (parts n)
  where
    by : List Node → Option Node
    by (phase ∷ next ∷ []) =
        where_so ((is_proceeding phase && not (is_vacant next)) || (not (is_proceeding phase) && is_vacant next)) n
    by other = None

-- items are the same where the agent, the target's key, the progress and the mark are
abbrev pub same_item : Node → Node → Bool
same_item a b = by (parts a) (parts b)
  where
    by : List Node → List Node → Bool
    by (agent ∷ target ∷ progress ∷ wide ∷ []) (agent' ∷ target' ∷ progress' ∷ wide' ∷ []) =
        nodes.same agent agent' && same_key (written_key (name_in target)) (written_key (name_in target'))
        && nodes.same progress progress' && nodes.same wide wide'
    by a b = false

abbrev pub most_items : ℕ
most_items = 128

abbrev pub trace_rule : Node → Option Node
trace_rule = where_test (λ n. nat_le (length (parts n)) most_items && distinct same_item (parts n))

-- ---- shadowing

abbrev pub is_of_type : ℕ → Node → Bool
is_of_type k v = is_of_kind (kind_of k) (value_in v)

abbrev pub normal_in : ℕ → Node → List ℕ
normal_in k v = normal_form (kind_of k) (value_in v)

abbrev pub same_value : ℕ → Node → Node → Bool
same_value k v w = same_octets (normal_in k v) (normal_in k w)

abbrev pub value_below : ℕ → Node → Node → Bool
value_below k v w = octets_below (normal_in k v) (normal_in k w)

-- an attribute of a known type, whose values are of its kind, each once
abbrev pub is_stored : Node → Bool
is_stored a = by (parts a)
  where
    by_type : List Node → Option ℕ → Bool
    by_type values None = false
    by_type values (Some k) = list_all (is_of_type k) values && distinct (same_value k) values

    by : List Node → Bool
    by (type ∷ values ∷ []) = by_type (parts values) (known_type type)
    by other = false

-- its values in the order of their normal forms
abbrev pub in_order : Node → Node
in_order a = by (parts a)
  where
    by : List Node → Node
    by (type ∷ values ∷ []) =
        Many (row (type ∷ Many (row (sorted (value_below (type_number type)) (parts values))) ∷ []))
    by other = a

abbrev pub attribute_type : Node → ℕ
attribute_type a = by (parts a)
  where
    by : List Node → ℕ
    by (type ∷ values ∷ []) = type_number type
    by other = 0

abbrev pub attribute_below : Node → Node → Bool
attribute_below a b = nat_lt (attribute_type a) (attribute_type b)

abbrev pub same_attribute : Node → Node → Bool
same_attribute a b = attribute_type a == attribute_type b

abbrev pub is_true : Node → Bool
is_true (Flag b) = b
is_true n = false

-- an entry of a refresh: from the entry itself, each type once, kept in the order of an entry
abbrev pub entry_rule : Node → Option Node
entry_rule e = by (parts e)
  where
    by : List Node → Option Node
    by (name ∷ from_entry ∷ attributes ∷ []) =
        where_so (is_true from_entry && list_all is_stored (parts attributes)
        && distinct same_attribute (parts attributes))
        (Many (row (name ∷ from_entry ∷ Many (row (sorted attribute_below (map in_order (parts attributes)))) ∷ [])))
    by other = None

-- the agents of a Known: the master and then copies, or masters alone
abbrev pub is_copy : Node → Bool
is_copy a = by (parts a)
  where
    by : List Node → Bool
    by (agent ∷ copy ∷ []) = is_true copy
    by other = false

abbrev pub master_first : List Node → Bool
master_first [] = false
master_first (a ∷ as') = not (is_copy a) && list_all is_copy as'

abbrev pub agents_of : Node → List Node
agents_of k = by (parts k)
  where
    by : List Node → List Node
    by (name ∷ agents ∷ []) = parts agents
    by other = []

abbrev pub known_rule : Node → Option Node
known_rule = where_test (λ k. master_first (agents_of k))

abbrev pub masters_rule : Node → Option Node
masters_rule = where_test (λ k. list_all (λ a. not (is_copy a)) (agents_of k))
