-- Requests are read back, component by component.
use Rattle.std.proofs.Common.{◌≡◌, ℕ, true, List, [], ◌∷◌, map, refl, ap, ap₂, sym, ◌∙◌}
use Rattle.std.specs.List.{list_all}
use Rattle.std.specs.declared.option.Option.{Option}
use Rattle.std.specs.declared.option.Option.TheVariants.{None, Some}
use Rattle.x5_model.specs.Values.{TypeRef, Value, TextValue, OctetsValue, OidValue, NameOf, Offered, Rdn, Name, written_pair}
use Rattle.x5_model.specs.Types.{is_type}
use Rattle.x5_model.specs.Normal.{stored_rdn}
use Rattle.x5_model.specs.Assertions.{offered, assertion_of, substring_item_of}
use Rattle.x5_model.specs.Filters.{Assertion, Parts, PiecePlace, Initial, Any, Last, Piece, SubstringItem, Item, Equality, Substrings, GreaterOrEqual, LessOrEqual, Present, Approximate, Filter, Filters, Is, And, Or, Not, Nil, More}
use Rattle.x5_model.specs.Requests.{Subset, Base, OneLevel, WholeSubtree, Selection, All, Only, Attribute, Change, AddAttribute, RemoveAttribute, AddValues, RemoveValues, Controls, Body, Read, Compare, ListBelow, Search, AddEntry, RemoveEntry, ModifyEntry, ModifyDn, Request}
use Rattle.x5_model.proofs.Lists.{both_true}
use Rattle.x5_model_run.specs.Journal.{operation_of}
use Rattle.x5_model_typed.specs.Nodes.{Node, row, list, whole}
use Rattle.x5_model_typed.specs.Rules.{value_in}
use Rattle.x5_model_typed.proofs.Laws.{list_row}
use Rattle.x5_model_messages.specs.Terms.{type_node, value_node, attribute_node, assertion_node, change_node, name_node, rdn_node, type_in, name_of, rdn_of, attribute_in, assertion_in, change_in}
use Rattle.x5_model_messages.specs.FilterTerms.{place_tag, piece_node, substrings_node, item_node, filter_node, filter_nodes, place_of_tag, piece_in, substrings_in, item_in, filter_in, filters_of}
use Rattle.x5_model_messages.specs.Requests.{controls_node, subset_number, selection_node, argument_node, controls_in, subset_in, selection_in, argument_in}
use Rattle.x5_model_messages.specs.Laws.{IsName, IsRdn, is_sayable, IsAttribute, AreAttributes, IsAssertion, IsSubstrings, IsItem, IsFilter, AreFilters, IsChange, AreChanges, IsSelection, IsBody, RequestsReadBack}
use Rattle.x5_model_messages.proofs.Back.{types_back, name_back, names_back, rdn_back}

pub the_name : (n : Name) → IsName n → name_of (name_node n) ≡ n
the_name n h = names_back n h.0 ∙ sym h.1

pub the_rdn : (r : Rdn) → IsRdn r → rdn_of (rdn_node r) ≡ r
the_rdn r h = ap stored_rdn (rdn_back (map written_pair r) h.0) ∙ sym h.1

pub value_back : (v : Value) → is_sayable v ≡ true → value_in (value_node v) ≡ v
value_back (TextValue t) h = refl
value_back (OctetsValue o) h = refl
value_back (OidValue arcs) h = refl
value_back (NameOf n) h = ap NameOf (name_back n h)

types_all : (ts : List TypeRef) → list_all is_type ts ≡ true → map type_in (map type_node ts) ≡ ts
types_all [] h = refl
types_all (t ∷ ts) h =
    let w = both_true (is_type t) (list_all is_type ts) h in
    ap₂ (λ (x : TypeRef) (xs : List TypeRef). x ∷ xs) (types_back t w.0) (types_all ts w.1)

-- ---- attributes and assertions

values_back : (type : TypeRef) (vs : List Offered) → list_all (λ v. is_sayable v.value) vs ≡ true
    → map (λ v. offered type (value_in v)) (map (λ o. value_node o.value) vs) ≡ map (λ o. offered type o.value) vs
values_back type [] h = refl
values_back type (v ∷ vs) h =
    let w = both_true (is_sayable v.value) (list_all (λ (o : Offered). is_sayable o.value) vs) h in
    ap₂ (λ (x : Value) (xs : List Offered). offered type x ∷ xs) (value_back v.value w.0) (values_back type vs w.1)

attribute_back : (a : Attribute) → IsAttribute a → attribute_in (attribute_node a) ≡ a
attribute_back a h =
    let nodes = map (λ (o : Offered). value_node o.value) a.values in
    ap (λ (t : TypeRef). record { kind = t; values = map (λ v. offered t (value_in v)) (list (row nodes)) }) (types_back a.kind h.0)
    ∙ ap (λ (ns : List Node). record { kind = a.kind; values = map (λ v. offered a.kind (value_in v)) ns }) (list_row nodes)
    ∙ ap (λ (vs : List Offered). record { kind = a.kind; values = vs }) (values_back a.kind a.values h.1 ∙ sym h.2)

attributes_back : (as' : List Attribute) → AreAttributes as' → map attribute_in (map attribute_node as') ≡ as'
attributes_back [] h = refl
attributes_back (a ∷ as') h = ap₂ (λ (x : Attribute) (xs : List Attribute). x ∷ xs) (attribute_back a h.0) (attributes_back as' h.1)

assertion_back : (a : Assertion) → IsAssertion a → assertion_in (assertion_node a) ≡ a
assertion_back a h =
    ap₂ assertion_of (types_back a.kind h.0) (value_back a.value h.1)
    ∙ ap (λ (n : Option (List ℕ)). record { kind = a.kind; value = a.value; normal = n }) (sym h.2)

change_back : (c : Change) → IsChange c → change_in (change_node c) ≡ c
change_back (AddAttribute a) h = ap AddAttribute (attribute_back a h)
change_back (RemoveAttribute type) h = ap RemoveAttribute (types_back type h)
change_back (AddValues a) h = ap AddValues (attribute_back a h)
change_back (RemoveValues a) h = ap RemoveValues (attribute_back a h)

changes_back : (cs : List Change) → AreChanges cs → map change_in (map change_node cs) ≡ cs
changes_back [] h = refl
changes_back (c ∷ cs) h = ap₂ (λ (x : Change) (xs : List Change). x ∷ xs) (change_back c h.0) (changes_back cs h.1)

-- ---- filters

place_back : (p : PiecePlace) → place_of_tag (place_tag p) ≡ p
place_back Initial = refl
place_back Any = refl
place_back Last = refl

pieces_back : (ps : List Piece) → list_all (λ p. is_sayable p.value) ps ≡ true → map piece_in (map piece_node ps) ≡ ps
pieces_back [] h = refl
pieces_back (p ∷ ps) h =
    let w = both_true (is_sayable p.value) (list_all (λ (q : Piece). is_sayable q.value) ps) h in
    let one : piece_in (piece_node p) ≡ p = ap₂ (λ (x : PiecePlace) (v : Value). record { place = x; value = v }) (place_back p.place) (value_back p.value w.0) in
    ap₂ (λ (x : Piece) (xs : List Piece). x ∷ xs) one (pieces_back ps w.1)

substrings_back : (s : SubstringItem) → IsSubstrings s → substrings_in (substrings_node s) ≡ s
substrings_back s h =
    ap₂ substring_item_of (types_back s.kind h.0)
    (ap (λ (ns : List Node). map piece_in ns) (list_row (map piece_node s.pieces)) ∙ pieces_back s.pieces h.1)
    ∙ ap (λ (n : Option Parts). record { kind = s.kind; pieces = s.pieces; normal = n }) (sym h.2)

item_back : (i : Item) → IsItem i → item_in (item_node i) ≡ i
item_back (Equality a) h = ap Equality (assertion_back a h)
item_back (Substrings s) h = ap Substrings (substrings_back s h)
item_back (GreaterOrEqual a) h = ap GreaterOrEqual (assertion_back a h)
item_back (LessOrEqual a) h = ap LessOrEqual (assertion_back a h)
item_back (Present type) h = ap Present (types_back type h)
item_back (Approximate a) h = ap Approximate (assertion_back a h)

mutual
  filter_back : (f : Filter) → IsFilter f → filter_in (filter_node f) ≡ f
  filter_back (Is i) h = ap Is (item_back i h)
  filter_back (And fs) h = ap And (filters_back fs h)
  filter_back (Or fs) h = ap Or (filters_back fs h)
  filter_back (Not f) h = ap Not (filter_back f h)

  filters_back : (fs : Filters) → AreFilters fs → filters_of (filter_nodes fs) ≡ fs
  filters_back Nil h = refl
  filters_back (More f fs) h = ap₂ (λ (x : Filter) (xs : Filters). More x xs) (filter_back f h.0) (filters_back fs h.1)

-- ---- requests

controls_back : (c : Controls) → controls_in (controls_node c) ≡ c
controls_back c = by c.size refl
  where
    by : (o : Option ℕ) → c.size ≡ o → controls_in (controls_node c) ≡ c
    by None e = ap (λ (o : Option ℕ). controls_in (controls_node (record { nocopy = c.nocopy; nochain = c.nochain; size = o }))) e ∙ ap (λ (o : Option ℕ). record { nocopy = c.nocopy; nochain = c.nochain; size = o }) (sym e)
    by (Some n) e = ap (λ (o : Option ℕ). controls_in (controls_node (record { nocopy = c.nocopy; nochain = c.nochain; size = o }))) e ∙ ap (λ (o : Option ℕ). record { nocopy = c.nocopy; nochain = c.nochain; size = o }) (sym e)

subset_back : (s : Subset) → subset_in (whole (subset_number s)) ≡ s
subset_back Base = refl
subset_back OneLevel = refl
subset_back WholeSubtree = refl

selection_back : (s : Selection) → IsSelection s → selection_in (selection_node s) ≡ s
selection_back All h = refl
selection_back (Only types) h =
    ap Only (ap (λ (ns : List Node). map type_in ns) (list_row (map type_node types)) ∙ types_all types h)

both : Controls → Body → Request
both c b = record { controls = c; body = b }

pub argument_back : (c : Controls) (b : Body) → IsBody b
    → argument_in (operation_of b) (argument_node (record { controls = c; body = b })) ≡ record { controls = c; body = b }
unfolding both
argument_back c (Read name selection) h =
    ap₂ both (controls_back c) (ap₂ Read (the_name name h.0) (selection_back selection h.1))
argument_back c (Compare name assertion) h =
    ap₂ both (controls_back c) (ap₂ Compare (the_name name h.0) (assertion_back assertion h.1))
argument_back c (ListBelow name) h = ap₂ both (controls_back c) (ap ListBelow (the_name name h))
argument_back c (Search base subset filter selection) h =
    ap₂ both (controls_back c)
    (ap (λ (n : Name). Search n (subset_in (whole (subset_number subset))) (filter_in (filter_node filter)) (selection_in (selection_node selection))) (the_name base h.0)
    ∙ ap (λ (s : Subset). Search base s (filter_in (filter_node filter)) (selection_in (selection_node selection))) (subset_back subset)
    ∙ ap (λ (g : Filter). Search base subset g (selection_in (selection_node selection))) (filter_back filter h.1)
    ∙ ap (λ (t : Selection). Search base subset filter t) (selection_back selection h.2))
argument_back c (AddEntry name attributes) h =
    ap₂ both (controls_back c)
    (ap₂ AddEntry (the_name name h.0) (ap (λ (ns : List Node). map attribute_in ns) (list_row (map attribute_node attributes)) ∙ attributes_back attributes h.1))
argument_back c (RemoveEntry name) h = ap₂ both (controls_back c) (ap RemoveEntry (the_name name h))
argument_back c (ModifyEntry name changes) h =
    ap₂ both (controls_back c)
    (ap₂ ModifyEntry (the_name name h.0) (ap (λ (ns : List Node). map change_in ns) (list_row (map change_node changes)) ∙ changes_back changes h.1))
argument_back c (ModifyDn name rdn drops) h =
    ap₂ both (controls_back c) (ap₂ (λ (n : Name) (r : Rdn). ModifyDn n r drops) (the_name name h.0) (the_rdn rdn h.1))

pub requests_back : RequestsReadBack
requests_back id r h = ap (λ (q : Request). (id, q)) (argument_back r.controls r.body h)
