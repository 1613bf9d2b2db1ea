-- Static refusals: what is refused by the request alone, before any name is resolved (X.511, sections 9 to 12).
-- All refusals of a request are listed in the order in which they count, and the first is given. This order is this
-- project's own, and so are the refusals of requests on the root and of names that are too short for an addEntry.
use Rattle.std.specs.Prelude.{Bool, false, not, ◌||◌, ◌==◌, nat_lt, List, [], ◌∷◌, ◌++◌, map, length}
use Rattle.std.specs.List.{list_any, flat_map}
use Rattle.std.specs.declared.option.Option.{Option}
use Rattle.std.specs.Option.{is_none}
use Rattle.x5_model.specs.Words.{has, distinct, is_empty, first_of, in_option, when, same_octets}
use Rattle.x5_model.specs.Values.{TypeRef, Known, Unknown, Offered, Name, last_rdn}
use Rattle.x5_model.specs.Types.{is_known}
use Rattle.x5_model.specs.Entries.{Entry}
use Rattle.x5_model.specs.Attributes.{is_present, doubled, added_entry}
use Rattle.x5_model.specs.Requests.{Attribute, Change, AddAttribute, RemoveAttribute, AddValues, RemoveValues, Body}
use Rattle.x5_model.specs.Requests.{Read, Compare, ListBelow, Search, AddEntry, RemoveEntry, ModifyEntry, ModifyDn}
use Rattle.x5_model.specs.Answers.{DirError, NoSuchObject, AttributeProblem, UpdateProblem}
use Rattle.x5_model.specs.Problems.{invalid_attribute_syntax, undefined_attribute_type, constraint_violation}
use Rattle.x5_model.specs.Problems.{attribute_or_value_already_exists, naming_violation, object_class_violation}
use Rattle.x5_model.specs.Problems.{object_class_modification_prohibited}

-- 1 and 2. An entry isn't added with fewer than two RDNs, and the root is no entry.
abbrev pub root_refusals : Name → List DirError
root_refusals name = when (is_empty name) (NoSuchObject [])

abbrev pub name_refusals : Body → List DirError
name_refusals (Read name selection) = root_refusals name
name_refusals (Compare name assertion) = root_refusals name
name_refusals (ListBelow name) = []
name_refusals (Search base subset filter selection) = []
name_refusals (AddEntry name attributes) = when (nat_lt (length name) 2) (UpdateProblem naming_violation)
name_refusals (RemoveEntry name) = root_refusals name
name_refusals (ModifyEntry name changes) = root_refusals name
name_refusals (ModifyDn name rdn drops) = root_refusals name

-- the attributes that compare, addEntry and modifyEntry give, in their order
abbrev pub attribute_of : Change → Attribute
attribute_of (AddAttribute a) = a
attribute_of (RemoveAttribute kind) = record { kind = kind; values = [] }
attribute_of (AddValues a) = a
attribute_of (RemoveValues a) = a

abbrev pub given : Body → List Attribute
given (Read name selection) = []
given (Compare name a) = (record { kind = a.kind; values = (record { value = a.value; normal = a.normal }) ∷ [] }) ∷ []
given (ListBelow name) = []
given (Search base subset filter selection) = []
given (AddEntry name attributes) = attributes
given (RemoveEntry name) = []
given (ModifyEntry name changes) = map attribute_of changes
given (ModifyDn name rdn drops) = []

-- 3. For each of them: the type is in the table, then each value is of its kind.
abbrev pub is_defined : TypeRef → Bool
is_defined (Known kind) = is_known kind
is_defined (Unknown arcs) = false

abbrev pub value_refusals : Attribute → List DirError
value_refusals a =
    when (not (is_defined a.kind)) (AttributeProblem undefined_attribute_type a.kind)
    ++ when (list_any (λ v. is_none v.normal) a.values) (AttributeProblem invalid_attribute_syntax a.kind)

-- Then, for each attribute that is added: no two values are equal, and in addEntry no earlier one has its type.
abbrev pub same_offered : Offered → Offered → Bool
same_offered a b = in_option false (λ m. in_option false (same_octets m) b.normal) a.normal

abbrev pub same_type : TypeRef → TypeRef → Bool
same_type (Known a) (Known b) = a == b
same_type (Known a) (Unknown b) = false
same_type (Unknown a) (Known b) = false
same_type (Unknown a) (Unknown b) = same_octets a b

abbrev pub has_equal_values : Attribute → Bool
has_equal_values a = not (distinct same_offered a.values)

abbrev pub repeated : Attribute → DirError
repeated a = AttributeProblem attribute_or_value_already_exists a.kind

abbrev pub attribute_repeats : List TypeRef → List Attribute → List DirError
attribute_repeats earlier [] = []
attribute_repeats earlier (a ∷ more) =
    when (has_equal_values a || has same_type earlier a.kind) (repeated a) ++ attribute_repeats (a.kind ∷ earlier) more

abbrev pub change_repeats : Change → List DirError
change_repeats (AddAttribute a) = when (has_equal_values a) (repeated a)
change_repeats (RemoveAttribute kind) = []
change_repeats (AddValues a) = when (has_equal_values a) (repeated a)
change_repeats (RemoveValues a) = []

-- Then no change names objectClass.
abbrev pub names_class : Change → Bool
names_class c = same_type (attribute_of c).kind (Known 0)

abbrev pub repeat_refusals : Body → List DirError
repeat_refusals (Read name selection) = []
repeat_refusals (Compare name assertion) = []
repeat_refusals (ListBelow name) = []
repeat_refusals (Search base subset filter selection) = []
repeat_refusals (AddEntry name attributes) = attribute_repeats [] attributes
repeat_refusals (RemoveEntry name) = []
repeat_refusals (ModifyEntry name changes) =
    flat_map change_repeats changes ++ when (list_any names_class changes)
    (UpdateProblem object_class_modification_prohibited)
repeat_refusals (ModifyDn name rdn drops) = []

-- 4. The entry that an addEntry would store has one value at most of a single-valued type, and an objectClass.
abbrev pub entry_refusals : Entry → List DirError
entry_refusals e =
    in_option [] (λ kind. AttributeProblem constraint_violation (Known kind) ∷ []) (doubled e)
    ++ when (not (is_present e 0)) (UpdateProblem object_class_violation)

abbrev pub added_refusals : Body → List DirError
added_refusals (Read name selection) = []
added_refusals (Compare name assertion) = []
added_refusals (ListBelow name) = []
added_refusals (Search base subset filter selection) = []
added_refusals (AddEntry name attributes) = entry_refusals (added_entry (last_rdn name) attributes)
added_refusals (RemoveEntry name) = []
added_refusals (ModifyEntry name changes) = []
added_refusals (ModifyDn name rdn drops) = []

abbrev pub static_refusals : Body → List DirError
static_refusals body =
    name_refusals body ++ flat_map value_refusals (given body) ++ repeat_refusals body ++ added_refusals body

-- the first that counts
abbrev pub fault_of : Body → Option DirError
fault_of body = first_of (static_refusals body)
