-- Names, values and attributes as the nodes of messages, and what such nodes say (X.501, X.511; docs/FORMATS.md,
-- section 4). An object identifier 2.5.4 and a number of the table is a known type.
use Rattle.std.specs.Prelude.{ℕ, pos, Bool, false, ◌==◌, if◌then◌else◌, List, [], ◌∷◌, map}
use Rattle.std.specs.declared.option.Option.{Option}
use Rattle.std.specs.declared.option.Option.TheVariants.{None, Some}
use Rattle.x5_model.specs.Values as values
use Rattle.x5_model.specs.Values.{TypeRef, Known, Unknown, Value, TextValue, OctetsValue, OidValue, NameOf, NameValue}
use Rattle.x5_model.specs.Values.{Rdn, Name, written, written_pair}
use Rattle.x5_model.specs.Normal.{stored, stored_rdn}
use Rattle.x5_model.specs.Assertions.{offered, assertion_of}
use Rattle.x5_model.specs.Filters.{Assertion}
use Rattle.x5_model.specs.Requests.{Attribute, Change, AddAttribute, RemoveAttribute, AddValues, RemoveValues}
use Rattle.x5_model_text.specs.TypeText.{arcs_of_type, type_of_arcs}
use Rattle.x5_model_typed.specs.Nodes as nodes
use Rattle.x5_model_typed.specs.Nodes.{Node, Vacant, Flag, Number, Oid, Octets, Chosen, Many, row, parts}
use Rattle.x5_model_typed.specs.Rules.{name_in, rdn_in, value_in}

abbrev pub node_of : List Node → Node
node_of ns = Many (row ns)

-- ---- what is written

abbrev pub type_node : TypeRef → Node
type_node type = Oid (arcs_of_type type)

abbrev pub pair_node : ℕ × values.Text → Node
pair_node p = node_of (type_node (Known p.0) ∷ nodes.Text p.1 ∷ [])

abbrev pub pairs_node : List (ℕ × values.Text) → Node
pairs_node r = node_of (map pair_node r)

abbrev pub rdn_node : Rdn → Node
rdn_node r = pairs_node (map written_pair r)

abbrev pub name_value_node : NameValue → Node
name_value_node n = node_of (map pairs_node n)

abbrev pub name_node : Name → Node
name_node n = name_value_node (written n)

abbrev pub value_node : Value → Node
value_node (TextValue t) = nodes.Text t
value_node (OctetsValue o) = Octets o
value_node (OidValue arcs) = Oid arcs
value_node (NameOf n) = name_value_node n

abbrev pub attribute_node : Attribute → Node
attribute_node a = node_of (type_node a.kind ∷ node_of (map (λ v. value_node v.value) a.values) ∷ [])

abbrev pub assertion_node : Assertion → Node
assertion_node a = node_of (type_node a.kind ∷ value_node a.value ∷ [])

abbrev pub change_node : Change → Node
change_node (AddAttribute a) = Chosen 0 (attribute_node a)
change_node (RemoveAttribute type) = Chosen 1 (type_node type)
change_node (AddValues a) = Chosen 2 (attribute_node a)
change_node (RemoveValues a) = Chosen 3 (attribute_node a)

-- ---- what nodes say; a node of another type says nothing, for which something stands

abbrev pub type_in : Node → TypeRef
type_in (Oid arcs) = type_of_arcs arcs
type_in n = Unknown []

-- with the normal forms of the texts
abbrev pub name_of : Node → Name
name_of n = stored (name_in n)

abbrev pub rdn_of : Node → Rdn
rdn_of n = stored_rdn (rdn_in n)

abbrev pub flag_in : Node → Bool
flag_in (Flag b) = b
flag_in n = false

abbrev pub number_in : Node → Option ℕ
number_in (Number (pos k)) = Some k
number_in n = None

abbrev pub attribute_in : Node → Attribute
attribute_in a = by (parts a)
  where
    by : List Node → Attribute
    by (type ∷ vs ∷ []) =
        record { kind = type_in type; values = map (λ v. offered (type_in type) (value_in v)) (parts vs) }
    by other = record { kind = Unknown []; values = [] }

abbrev pub assertion_in : Node → Assertion
assertion_in a = by (parts a)
  where
    by : List Node → Assertion
    by (type ∷ value ∷ []) = assertion_of (type_in type) (value_in value)
    by other = assertion_of (Unknown []) (TextValue [])

abbrev pub change_in : Node → Change
change_in (Chosen tag n) =
    if tag == 0 then AddAttribute (attribute_in n)
    else if tag == 1 then RemoveAttribute (type_in n)
    else if tag == 2 then AddValues (attribute_in n)
    else RemoveValues (attribute_in n)
change_in n = RemoveAttribute (Unknown [])
