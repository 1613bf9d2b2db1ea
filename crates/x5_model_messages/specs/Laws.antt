-- What is written says what it's written of: types and names; and whole requests, where types are of the table exactly
-- if they go by number, and the normal forms are those of what is spelled.
use Rattle.std.specs.Prelude.{◌≡◌, ℕ, Bool, true, List, [], ◌∷◌, map}
use Rattle.std.specs.List.{list_all}
use Rattle.x5_model.specs.Values.{TypeRef, Value, TextValue, OctetsValue, OidValue, NameOf, NameValue, Rdn, Name}
use Rattle.x5_model.specs.Values.{written, written_pair}
use Rattle.x5_model.specs.Types.{is_known, is_type}
use Rattle.x5_model.specs.Normal.{stored, stored_rdn}
use Rattle.x5_model.specs.Assertions.{offered, normal_for, parts_for}
use Rattle.x5_model.specs.Filters.{Assertion, SubstringItem, Item, Equality, Substrings, GreaterOrEqual, LessOrEqual}
use Rattle.x5_model.specs.Filters.{Present, Approximate, Filter, Filters, Is, And, Or, Not, Nil, More}
use Rattle.x5_model.specs.Requests.{Selection, All, Only, Attribute, Change, AddAttribute, RemoveAttribute, AddValues}
use Rattle.x5_model.specs.Requests.{RemoveValues, Body, Read, Compare, ListBelow, Search, AddEntry, RemoveEntry}
use Rattle.x5_model.specs.Requests.{ModifyEntry, ModifyDn, Request}
use Rattle.x5_model_messages.specs.Terms.{type_node, type_in, name_node, name_of}
use Rattle.x5_model_messages.specs.Requests.{request_node, request_in}

abbrev pub TypesReadBack : Type 0
TypesReadBack = (type : TypeRef) → is_type type ≡ true → type_in (type_node type) ≡ type

-- each type of the name is in the table
abbrev pub has_known_types : NameValue → Bool
has_known_types n = list_all (λ r. list_all (λ p. is_known p.0) r) n

-- a name is read with the normal forms of its texts
abbrev pub NamesReadBack : Type 0
NamesReadBack = (n : Name) → has_known_types (written n) ≡ true → name_of (name_node n) ≡ stored (written n)

-- ---- requests whose parts are as they are spelled

abbrev pub IsName : Name → Type 0
IsName n = (has_known_types (written n) ≡ true) × (n ≡ stored (written n))

abbrev pub IsRdn : Rdn → Type 0
IsRdn r = (list_all (λ p. is_known p.0) (map written_pair r) ≡ true) × (r ≡ stored_rdn (map written_pair r))

abbrev pub is_sayable : Value → Bool
is_sayable (TextValue t) = true
is_sayable (OctetsValue o) = true
is_sayable (OidValue arcs) = true
is_sayable (NameOf n) = has_known_types n

abbrev pub IsAttribute : Attribute → Type 0
IsAttribute a = (is_type a.kind ≡ true) × (list_all (λ v. is_sayable v.value) a.values ≡ true)
    × (a.values ≡ map (λ v. offered a.kind v.value) a.values)

abbrev pub AreAttributes : List Attribute → Type 0
AreAttributes [] = Unit {0}
AreAttributes (a ∷ attributes) = IsAttribute a × AreAttributes attributes

abbrev pub IsAssertion : Assertion → Type 0
IsAssertion a = (is_type a.kind ≡ true) × (is_sayable a.value ≡ true) × (a.normal ≡ normal_for a.kind a.value)

abbrev pub IsSubstrings : SubstringItem → Type 0
IsSubstrings s = (is_type s.kind ≡ true) × (list_all (λ p. is_sayable p.value) s.pieces ≡ true)
    × (s.normal ≡ parts_for s.kind s.pieces)

abbrev pub IsItem : Item → Type 0
IsItem (Equality a) = IsAssertion a
IsItem (Substrings s) = IsSubstrings s
IsItem (GreaterOrEqual a) = IsAssertion a
IsItem (LessOrEqual a) = IsAssertion a
IsItem (Present type) = is_type type ≡ true
IsItem (Approximate a) = IsAssertion a

abbrev mutual
  pub IsFilter : Filter → Type 0
  IsFilter (Is i) = IsItem i
  IsFilter (And fs) = AreFilters fs
  IsFilter (Or fs) = AreFilters fs
  IsFilter (Not f) = IsFilter f

  pub AreFilters : Filters → Type 0
  AreFilters Nil = Unit {0}
  AreFilters (More f fs) = IsFilter f × AreFilters fs

abbrev pub IsChange : Change → Type 0
IsChange (AddAttribute a) = IsAttribute a
IsChange (RemoveAttribute type) = is_type type ≡ true
IsChange (AddValues a) = IsAttribute a
IsChange (RemoveValues a) = IsAttribute a

abbrev pub AreChanges : List Change → Type 0
AreChanges [] = Unit {0}
AreChanges (c ∷ changes) = IsChange c × AreChanges changes

abbrev pub IsSelection : Selection → Type 0
IsSelection All = Unit {0}
IsSelection (Only types) = list_all is_type types ≡ true

abbrev pub IsBody : Body → Type 0
IsBody (Read name selection) = IsName name × IsSelection selection
IsBody (Compare name assertion) = IsName name × IsAssertion assertion
IsBody (ListBelow name) = IsName name
IsBody (Search base subset filter selection) = IsName base × IsFilter filter × IsSelection selection
IsBody (AddEntry name attributes) = IsName name × AreAttributes attributes
IsBody (RemoveEntry name) = IsName name
IsBody (ModifyEntry name changes) = IsName name × AreChanges changes
IsBody (ModifyDn name rdn drops) = IsName name × IsRdn rdn

-- Such a request is read back.
abbrev pub RequestsReadBack : Type 0
RequestsReadBack = (id : ℕ) (r : Request) → IsBody r.body → request_in (request_node id r) ≡ (id, r)
