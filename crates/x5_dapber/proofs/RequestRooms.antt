-- There is room under what is written of a request whose filter isn't too deep.
use Rattle.std.proofs.Common.{◌≡◌, true, ℕ, ◌+◌, ◌*◌, ◌-◌, ◌≤◌, List, [], ◌∷◌, ◌++◌, map, arith}
use Rattle.std.specs.declared.option.Option.{Option}
use Rattle.std.specs.declared.option.Option.TheVariants.{None, Some}
use Rattle.x5_model.specs.Values.{TypeRef, Text, Value, TextValue, OctetsValue, OidValue, NameOf, NameValue, Offered, Rdn, Name, written, written_pair}
use Rattle.x5_model.specs.Filters.{Assertion, Piece, SubstringItem, Item, Equality, Substrings, GreaterOrEqual, LessOrEqual, Present, Approximate, Filter, Filters, Is, And, Or, Not}
use Rattle.x5_model.specs.Filters as filters
use Rattle.x5_model.specs.Requests.{Selection, All, Only, Attribute, Change, AddAttribute, RemoveAttribute, AddValues, RemoveValues, Controls, Body, Read, Compare, ListBelow, Search, AddEntry, RemoveEntry, ModifyEntry, ModifyDn, Request}
use Rattle.x5_model_octets.specs.Elements.{deepest}
use Rattle.x5_model_typed.specs.Nodes.{Node, Nodes, Vacant, Nil, More, row}
use Rattle.x5_model_messages.specs.Terms.{node_of, type_node, pair_node, pairs_node, rdn_node, name_value_node, name_node, value_node, attribute_node, assertion_node, change_node}
use Rattle.x5_model_messages.specs.FilterTerms.{piece_node, substrings_node, item_node, filter_node, filter_nodes}
use Rattle.x5_model_messages.specs.Requests.{size_node, controls_node, selection_node, argument_node, request_node}
use Rattle.x5_model_typed.specs.Rules.{is_text}
use Rattle.x5_dapber.proofs.Levels.{AreTexts, HasTexts, HasLevels, HaveLevels, IsShallow}
use Rattle.x5_dapber.proofs.Rooms.{Room, RoomForAll}

-- so many levels are enough
abbrev pub Takes : ℕ → Node → Type 0
Takes r n = (d : ℕ) → d + r ≤ deepest → Room d n

pub mapped_take : {X : Type 0} (f : X → Node) (r : ℕ) → ((x : X) → Takes r (f x)) → (xs : List X) (d : ℕ) → d + r ≤ deepest
    → RoomForAll d (row (map f xs))
mapped_take f r takes [] d le = tt
mapped_take f r takes (x ∷ xs) d le = (takes x d le, mapped_take f r takes xs d le)

pub many_take : {X : Type 0} (f : X → Node) (r : ℕ) → ((x : X) → Takes r (f x)) → (xs : List X) → Takes (r + 2) (node_of (map f xs))
many_take f r takes xs d le = (omega (arith, le), mapped_take f r takes xs (d + 2) (omega (arith, le)))

-- ---- names, values and attributes

pub type_takes : (t : TypeRef) → Takes 0 (type_node t)
type_takes t d le = omega (arith, le)

pair_takes : (p : ℕ × Text) → Takes 2 (pair_node p)
pair_takes p d le = (omega (arith, le), (omega (arith, le), (omega (arith, le), tt)))

pairs_take : (r : List (ℕ × Text)) → Takes 4 (pairs_node r)
pairs_take r = many_take pair_node 2 pair_takes r

name_value_takes : (n : NameValue) → Takes 6 (name_value_node n)
name_value_takes n = many_take pairs_node 4 pairs_take n

pub rdn_takes : (r : Rdn) → Takes 4 (rdn_node r)
rdn_takes r = pairs_take (map written_pair r)

pub name_takes : (n : Name) → Takes 6 (name_node n)
name_takes n = name_value_takes (written n)

pub value_takes : (v : Value) → Takes 6 (value_node v)
value_takes (TextValue t) d le = omega (arith, le)
value_takes (OctetsValue o) d le = omega (arith, le)
value_takes (OidValue arcs) d le = omega (arith, le)
value_takes (NameOf n) d le = name_value_takes n d le

attribute_takes : (a : Attribute) → Takes 10 (attribute_node a)
attribute_takes a d le = (
  omega (arith, le),
  (
    omega (arith, le),
    (many_take (λ (v : Offered). value_node v.value) 6 (λ v. value_takes v.value) a.values (d + 2) (omega (arith, le)), tt),
  ),
)

assertion_takes : (a : Assertion) → Takes 8 (assertion_node a)
assertion_takes a d le = (omega (arith, le), (omega (arith, le), (value_takes a.value (d + 2) (omega (arith, le)), tt)))

change_takes : (c : Change) → Takes 11 (change_node c)
change_takes (AddAttribute a) d le = (omega (arith, le), attribute_takes a (d + 1) (omega (arith, le)))
change_takes (RemoveAttribute t) d le = (omega (arith, le), omega (arith, le))
change_takes (AddValues a) d le = (omega (arith, le), attribute_takes a (d + 1) (omega (arith, le)))
change_takes (RemoveValues a) d le = (omega (arith, le), attribute_takes a (d + 1) (omega (arith, le)))

-- ---- filters

text_takes : (v : Value) → is_text (value_node v) ≡ true → Takes 0 (value_node v)
text_takes (TextValue t) h d le = omega (arith, le)
text_takes (OctetsValue o) h d le = absurd (cc h)
text_takes (OidValue arcs) h d le = absurd (cc h)
text_takes (NameOf n) h d le = absurd (cc h)

pieces_take : (ps : List Piece) → AreTexts ps → (d : ℕ) → d + 1 ≤ deepest → RoomForAll d (row (map piece_node ps))
pieces_take [] h d le = tt
pieces_take (p ∷ ps) h d le = ((omega (arith, le), text_takes p.value h.0 (d + 1) (omega (arith, le))), pieces_take ps h.1 d le)

substrings_take : (s : SubstringItem) → AreTexts s.pieces → Takes 5 (substrings_node s)
substrings_take s h d le =
    (omega (arith, le), (omega (arith, le), ((omega (arith, le), pieces_take s.pieces h (d + 2 + 2) (omega (arith, le))), tt)))

item_takes : (i : Item) → HasTexts i → Takes 9 (item_node i)
item_takes (Equality a) h d le = (omega (arith, le), assertion_takes a (d + 1) (omega (arith, le)))
item_takes (Substrings s) h d le = (omega (arith, le), substrings_take s h (d + 1) (omega (arith, le)))
item_takes (GreaterOrEqual a) h d le = (omega (arith, le), assertion_takes a (d + 1) (omega (arith, le)))
item_takes (LessOrEqual a) h d le = (omega (arith, le), assertion_takes a (d + 1) (omega (arith, le)))
item_takes (Present t) h d le = (omega (arith, le), omega (arith, le))
item_takes (Approximate a) h d le = (omega (arith, le), assertion_takes a (d + 1) (omega (arith, le)))

mutual
  filter_takes : (k : ℕ) (f : Filter) → HasLevels k f → Takes (3 * k + 7) (filter_node f)
  filter_takes k (Is i) h d le = (omega (arith, le), item_takes i h.1 (d + 1) (omega (arith, le, h.0)))
  filter_takes k (And fs) h d le =
      (omega (arith, le), (omega (arith, le, h.0), filters_take (k - 1) fs h.1 (d + 1 + 2) (omega (arith, le, h.0))))
  filter_takes k (Or fs) h d le =
      (omega (arith, le), (omega (arith, le, h.0), filters_take (k - 1) fs h.1 (d + 1 + 2) (omega (arith, le, h.0))))
  filter_takes k (Not f) h d le = (omega (arith, le), filter_takes (k - 1) f h.1 (d + 1) (omega (arith, le, h.0)))

  filters_take : (k : ℕ) (fs : Filters) → HaveLevels k fs → (d : ℕ) → d + (3 * k + 7) ≤ deepest
      → RoomForAll d (filter_nodes fs)
  filters_take k filters.Nil h d le = tt
  filters_take k (filters.More f fs) h d le = (filter_takes k f h.0 d le, filters_take k fs h.1 d le)

-- ---- requests

size_takes : (o : Option ℕ) → Takes 0 (size_node o)
size_takes None d le = omega (arith, le)
size_takes (Some n) d le = omega (arith, le)

controls_take : (c : Controls) → Takes 4 (controls_node c)
controls_take c d le = (
  omega (arith, le),
  (
    (omega (arith, le), (omega (arith, le), (omega (arith, le), tt))),
    (omega (arith, le), (omega (arith, le), (size_takes c.size (d + 2) (omega (arith, le)), tt))),
  ),
)

selection_takes : (s : Selection) → Takes 4 (selection_node s)
selection_takes All d le = (omega (arith, le), (omega (arith, le), tt))
selection_takes (Only types) d le = (omega (arith, le), (many_take type_node 0 type_takes types (d + 2) (omega (arith, le)), tt))

pub argument_takes : (c : Controls) (b : Body) → IsShallow b → Takes 57 (argument_node (record { controls = c; body = b }))
argument_takes c (Read name selection) h d le = (
  omega (arith, le),
  (
    name_takes name (d + 2) (omega (arith, le)),
    (selection_takes selection (d + 2) (omega (arith, le)), (controls_take c (d + 2) (omega (arith, le)), tt)),
  ),
)
argument_takes c (Compare name assertion) h d le = (
  omega (arith, le),
  (
    name_takes name (d + 2) (omega (arith, le)),
    (assertion_takes assertion (d + 2) (omega (arith, le)), (controls_take c (d + 2) (omega (arith, le)), tt)),
  ),
)
argument_takes c (ListBelow name) h d le =
    (omega (arith, le), (name_takes name (d + 2) (omega (arith, le)), (controls_take c (d + 2) (omega (arith, le)), tt)))
argument_takes c (Search base subset filter selection) h d le = (
  omega (arith, le),
  (
    name_takes base (d + 2) (omega (arith, le)),
    (
      omega (arith, le),
      (
        filter_takes 16 filter h (d + 2) (omega (arith, le)),
        (selection_takes selection (d + 2) (omega (arith, le)), (controls_take c (d + 2) (omega (arith, le)), tt)),
      ),
    ),
  ),
)
argument_takes c (AddEntry name attributes) h d le = (
  omega (arith, le),
  (
    name_takes name (d + 2) (omega (arith, le)),
    (
      many_take attribute_node 10 attribute_takes attributes (d + 2) (omega (arith, le)),
      (controls_take c (d + 2) (omega (arith, le)), tt),
    ),
  ),
)
argument_takes c (RemoveEntry name) h d le =
    (omega (arith, le), (name_takes name (d + 2) (omega (arith, le)), (controls_take c (d + 2) (omega (arith, le)), tt)))
argument_takes c (ModifyEntry name changes) h d le = (
  omega (arith, le),
  (
    name_takes name (d + 2) (omega (arith, le)),
    (
      many_take change_node 11 change_takes changes (d + 2) (omega (arith, le)),
      (controls_take c (d + 2) (omega (arith, le)), tt),
    ),
  ),
)
argument_takes c (ModifyDn name rdn drops) h d le = (
  omega (arith, le),
  (
    name_takes name (d + 2) (omega (arith, le)),
    (
      rdn_takes rdn (d + 2) (omega (arith, le)),
      (omega (arith, le), (controls_take c (d + 2) (omega (arith, le)), tt)),
    ),
  ),
)

pub request_room : (id : ℕ) (r : Request) → IsShallow r.body → Room 1 (request_node id r)
request_room id r h =
    let fits : 1 + 1 + 2 + 57 ≤ deepest = omega arith in
    (omega arith, (omega arith, (omega arith, (omega arith, (argument_takes r.controls r.body h (1 + 1 + 2) fits, tt)))))
