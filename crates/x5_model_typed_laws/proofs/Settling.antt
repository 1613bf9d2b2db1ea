-- The rules that keep another value than was read: an RDN's pairs in order, controls without priority and time limit,
-- an entry of a refresh with its attributes and values in order. What each makes of a value that fits, fits; and the
-- rule keeps it.
use Rattle.std.proofs.Common.{◌≡◌, ℕ, Bool, true, false, cond, not, ◌&&◌, ◌==◌, nat_lt, nat_le, List, [], ◌∷◌, length, map, refl, sym, ap, ap₂, subst, ◌∙◌, arith, inl, inr}
use Rattle.std.specs.List.{list_all}
use Rattle.std.specs.declared.option.Option.{Option}
use Rattle.std.specs.declared.option.Option.TheVariants.{None, Some}
use Rattle.x5_model.specs.Words.{distinct, sorted, is_empty}
use Rattle.x5_model.specs.Members.{In, here, there}
use Rattle.x5_model.specs.Normal as normal
use Rattle.x5_model.proofs.Lists.{both_true, and_true, in_first, of_map}
use Rattle.x5_model.proofs.Ascending.{of_sorted}
use Rattle.x5_model_typed.specs.Nodes as nodes
use Rattle.x5_model_typed.specs.Nodes.{Node, Nodes, Vacant, Flag, Many, Nil, More, list, row, parts}
use Rattle.x5_model_typed.specs.Named.{Named, AnyNumber, NumberBelow, Boolean, AnyOid, Value, Options, Name, Pair, Attribute, Attributes, Values}
use Rattle.x5_model_typed.specs.Forms.{Component, Members, Sequence, Alternative, Layout, plain, at, or, ruled}
use Rattle.x5_model_typed.specs.Leaves.{where_so, options_node}
use Rattle.x5_model_typed.specs.Typed.{required, default}
use Rattle.x5_model_typed.specs.Written.{leaf_octets, can_hold}
use Rattle.x5_model_typed.specs.Layouts.{Surroundings, layout, is, set_of, sequence, set, optional}
use Rattle.x5_model_typed.specs.Rules.{type_number, known_type, pair_below, same_type, pair_in, rdn_rule, some_members, controls_rule, is_stored, is_of_type, same_value, value_below, normal_in, in_order, attribute_type, attribute_below, same_attribute, is_true, entry_rule}
use Rattle.x5_model_typed.proofs.Laws.{list_row}
use Rattle.x5_model_typed_laws.specs.Fits as fits
use Rattle.x5_model_typed_laws.specs.Fits.{Fits, FitsIn, FitsSequence, FitsSet, FitsEach, left_out, given, over, absent, present, all, none, more, whole, made, chosen, chosen_made, is_chosen}
use Rattle.x5_model_typed_laws.specs.Said.{Closes}
use Rattle.x5_model_typed_laws.proofs.Leaves.{so, let_through}
use Rattle.x5_model_typed_laws.proofs.Sorting.{sorted_stays, sorted_length, some_sorted, all_sorted, apart_sorted, apart_mapped, number_one_way, octets_one_way, octets_turned}

-- ---- members, one by one
each_in : (L : Layout) (form : Named) (ns : Nodes) → FitsEach L form ns → (n : Node) → In n (list ns)
    → Fits L (L form) n
each_in L form Nil none n i = elim i [ ]
each_in L form (More m ms) (more f g) n i = elim (in_first n m (list ms) i) [
  | inl e ↦ subst (λ (x : Node). Fits L (L form) x) (sym e) f
  | inr j ↦ each_in L form ms g n j
]

each_of : (L : Layout) (form : Named) (xs : List Node) → ((n : Node) → In n xs → Fits L (L form) n)
    → FitsEach L form (row xs)
each_of L form [] f = none
each_of L form (x ∷ xs) f = more (f x here) (each_of L form xs (λ n i. f n (there i)))

-- a type with one alternative, of elements
record IsMade (L : Layout) (a : Alternative) (n : Node) : Type 0 where
  members : Nodes
  is_many : n ≡ Many members
  within : FitsIn L a.content members
  settled : a.settles (Many members) ≡ Some (Many members)

only : (a b : Alternative) (c : Bool) → cond c (Some a) None ≡ Some b → b ≡ a
only a b true h = cc
only a b false h = absurd (cc h)

no_octets : (o : Option (List ℕ)) (octets : List ℕ) → o ≡ None → o ≡ Some octets → ⊥
no_octets o octets e h = cc

only_made : (L : Layout) (a : Alternative) (n : Node) → a.marked ≡ false → ((m : Node) → leaf_octets a.content m ≡ None)
    → Fits L (a ∷ []) n → IsMade L a n
only_made L a n free_of nothing (whole b octets free held unmarked writes settles) =
    let same : b ≡ a = only a b (can_hold n a) held in
    absurd (no_octets (leaf_octets a.content n) octets (nothing n)
    (ap (λ (c : Alternative). leaf_octets c.content n) (sym same) ∙ writes))
only_made L a _ free_of nothing (made {ns} b held unmarked empty inside settles) =
    let same : b ≡ a = only a b (can_hold (Many ns) a) held in
    record {
      members = ns;
      is_many = refl;
      within = subst (λ (c : Alternative). FitsIn L c.content ns) same inside;
      settled = ap (λ (c : Alternative). c.settles (Many ns)) (sym same) ∙ settles;
    }
only_made L a _ free_of nothing (chosen b tag form found c f settles) =
    absurd (by (ap (λ (x : Bool). cond (x && (a.tag == tag)) (Some a) None) (sym free_of) ∙ found))
  where
    by : (let o : Option Alternative = None in o) ≡ Some b → ⊥
    by e = cc
only_made L a _ free_of nothing (chosen_made b tag found inside settles) =
    absurd (by (ap (λ (x : Bool). cond (x && (a.tag == tag)) (Some a) None) (sym free_of) ∙ found))
  where
    by : (let o : Option Alternative = None in o) ≡ Some b → ⊥
    by e = cc

sequence_in : (L : Layout) (cs : List Component) (ns : Nodes) → FitsIn L (Sequence cs) ns → FitsSequence L cs ns
sequence_in L cs ns (fits.sequence f) = f

members_in : (L : Layout) (form : Named) (ns : Nodes) → FitsIn L (Members form) ns → FitsEach L form ns
members_in L form ns (fits.members f) = f

-- ---- components, one by one
record HasFirst (L : Layout) (c : Component) (cs : List Component) (ns : Nodes) : Type 0 where
  first : Node
  others : Nodes
  split : ns ≡ More first others
  rest : FitsSequence L cs others
  again : (ms : Nodes) → FitsSequence L cs ms → FitsSequence L (c ∷ cs) (More first ms)

plain_first : (L : Layout) (form : Named) (cs : List Component) (ns : Nodes) → FitsSequence L (plain form ∷ cs) ns
    → HasFirst L (plain form) cs ns × ((n : Node) (ms : Nodes) → ns ≡ More n ms → Fits L (L form) n)
plain_first L form cs _ (left_out d e f g) = absurd (cc e)
plain_first L form cs _ (given {n} {ns} nd f required g) = (
  record { first = n; others = ns; split = refl; rest = g; again = λ ms h. given nd f required h },
  λ m ms e. (let same : n ≡ m = cc in subst (λ (x : Node). Fits L (L form) x) same f),
)

default_first : (L : Layout) (d : Node) (form : Named) (cs : List Component) (ns : Nodes)
    → FitsSequence L (or d (plain form) ∷ cs) ns → HasFirst L (or d (plain form)) cs ns
default_first L d form cs _ (left_out {ns} x e f g) =
    record { first = x; others = ns; split = refl; rest = g; again = λ ms h. left_out x e f h }
default_first L d form cs _ (given {n} {ns} nd f default g) =
    record { first = n; others = ns; split = refl; rest = g; again = λ ms h. given nd f default h }

no_more : (L : Layout) (ns : Nodes) → FitsSequence L [] ns → ns ≡ Nil
no_more L _ over = refl

record HasOne (L : Layout) (c : Component) (cs : List Component) (ns : Nodes) : Type 0 where
  first : Node
  others : Nodes
  split : ns ≡ More first others
  rest : FitsSet L cs others
  again : (ms : Nodes) → FitsSet L cs ms → FitsSet L (c ∷ cs) (More first ms)

set_first : (L : Layout) (c : Component) (cs : List Component) (ns : Nodes) → FitsSet L (c ∷ cs) ns → HasOne L c cs ns
set_first L c cs _ (absent {ns} d e f g) =
    record { first = d; others = ns; split = refl; rest = g; again = λ ms h. absent d e f h }
set_first L c cs _ (present {n} {ns} nd f goes g) =
    record { first = n; others = ns; split = refl; rest = g; again = λ ms h. present nd f goes h }

none_left : (L : Layout) (ns : Nodes) → FitsSet L [] ns → ns ≡ Nil
none_left L _ all = refl

-- ---- an RDN
type_turned : (p q : Node) → same_type p q ≡ same_type q p
type_turned p q = number_turned (pair_in p).0 (pair_in q).0
  where
    number_turned : (a b : ℕ) → (a == b) ≡ (b == a)
    number_turned a b = grind arith

pub rdn_closes : (w : Surroundings) → Closes (layout w) (is (ruled rdn_rule (set_of Pair)))
    (ruled rdn_rule (set_of Pair))
rdn_closes w m n (ns, is_many, inside) h =
    subst (λ (x : Node). Fits (layout w) (is (ruled rdn_rule (set_of Pair))) x) out.1
    (made (ruled rdn_rule (set_of Pair)) refl refl refl (fits.members (each_of (layout w) Pair s fit)) kept)
  where
    xs : List Node
    xs = parts m

    s : List Node
    s = sorted pair_below xs

    test : List Node → Bool
    test ps = nat_lt 0 (length ps) && nat_le (length ps) normal.most_pairs && distinct same_type ps

    out : (test (parts m) ≡ true) × (Many (row (sorted pair_below (parts m))) ≡ n)
    out = so (test (parts m)) (Many (row (sorted pair_below (parts m)))) n h

    fit : (p : Node) → In p (sorted pair_below (parts m)) → Fits (layout w) (layout w Pair) p
    fit p i = each_in (layout w) Pair ns inside p (subst (λ (x : Node). In p (parts x)) is_many
        (of_sorted pair_below p (parts m) i))

    passes : test (sorted pair_below (parts m)) ≡ true
    passes =
        let a = both_true (nat_lt 0 (length (parts m)) && nat_le (length (parts m)) normal.most_pairs)
        (distinct same_type (parts m)) out.0 in
        and_true (nat_lt 0 (length (sorted pair_below (parts m))) && nat_le
        (length (sorted pair_below (parts m))) normal.most_pairs)
        (distinct same_type (sorted pair_below (parts m)))
        (ap (λ (k : ℕ). nat_lt 0 k && nat_le k normal.most_pairs) (sorted_length pair_below (parts m)) ∙ a.0)
        (apart_sorted pair_below same_type type_turned (parts m) a.1)

    kept : rdn_rule (Many (row (sorted pair_below (parts m)))) ≡ Some (Many (row (sorted pair_below (parts m))))
    kept =
        ap (λ (ps : List Node). where_so (test ps) (Many (row (sorted pair_below ps))))
        (list_row (sorted pair_below (parts m)))
        ∙ ap (λ (ps : List Node). where_so (test (sorted pair_below (parts m))) (Many (row ps)))
        (sorted_stays pair_below (λ x y. number_one_way (pair_in x).0 (pair_in y).0) (parts m))
        ∙ let_through (test (sorted pair_below (parts m))) (Many (row (sorted pair_below (parts m)))) passes

-- ---- controls
abbrev options_at : Component
options_at = or (options_node false false) (at 0 Options)

abbrev size_at : Component
size_at = optional (at 3 (NumberBelow 0 4294967295))

abbrev controls_set : List Component
controls_set = options_at ∷ optional (at 1 AnyNumber) ∷ optional (at 2 AnyNumber) ∷ size_at ∷ []

pub controls_close : (w : Surroundings) → Closes (layout w) (is (ruled controls_rule (set controls_set)))
    (ruled controls_rule (set controls_set))
controls_close w m n (ns, is_many, inside) h =
    subst (λ (x : Node). Fits (layout w) (is (ruled controls_rule (set controls_set))) x) result
    (made (ruled controls_rule (set controls_set)) refl refl refl
    (fits.set (a.again (More Vacant (More Vacant (More d.first Nil)))
    (absent Vacant refl refl (absent Vacant refl refl (d.again Nil all))))) refl)
  where
    a : HasOne (layout w) options_at (optional (at 1 AnyNumber) ∷ optional (at 2 AnyNumber) ∷ size_at ∷ []) ns
    a = set_first (layout w) options_at (optional (at 1 AnyNumber) ∷ optional (at 2 AnyNumber) ∷ size_at ∷ []) ns inside

    b : HasOne (layout w) (optional (at 1 AnyNumber)) (optional (at 2 AnyNumber) ∷ size_at ∷ []) a.others
    b = set_first (layout w) (optional (at 1 AnyNumber)) (optional (at 2 AnyNumber) ∷ size_at ∷ []) a.others a.rest

    c : HasOne (layout w) (optional (at 2 AnyNumber)) (size_at ∷ []) b.others
    c = set_first (layout w) (optional (at 2 AnyNumber)) (size_at ∷ []) b.others b.rest

    d : HasOne (layout w) size_at [] c.others
    d = set_first (layout w) size_at [] c.others c.rest

    whole_is : m ≡ Many (row (a.first ∷ b.first ∷ c.first ∷ d.first ∷ []))
    whole_is =
        is_many ∙ ap (λ (x : Nodes). Many x) (a.split ∙ ap (λ (x : Nodes). More a.first x) (b.split
        ∙ ap (λ (x : Nodes). More b.first x) (c.split ∙ ap (λ (x : Nodes). More c.first x) (d.split
        ∙ ap (λ (x : Nodes). More d.first x) (none_left (layout w) d.others d.rest)))))

    result : Many (row (a.first ∷ Vacant ∷ Vacant ∷ d.first ∷ [])) ≡ n
    result = (let e : Some (Many (row (a.first ∷ Vacant ∷ Vacant ∷ d.first ∷ []))) ≡ Some n = ap controls_rule
        (sym whole_is) ∙ h in cc)

-- ---- an entry of a refresh
record IsAttribute (w : Surroundings) (a : Node) : Type 0 where
  type : Node
  values : Node
  is_row : a ≡ Many (row (type ∷ values ∷ []))
  fit : (v : Node) → In v (parts values) → Fits (layout w) (layout w Value) v
  some : not (is_empty (parts values)) ≡ true
  again : (v : Node) → Fits (layout w) (layout w Values) v
      → Fits (layout w) (layout w Attribute) (Many (row (type ∷ v ∷ [])))

abbrev attribute_row : List Component
attribute_row = plain AnyOid ∷ plain Values ∷ []

attribute_is : (w : Surroundings) (a : Node) → Fits (layout w) (layout w Attribute) a → IsAttribute w a
attribute_is w a f = record {
  type = x.first;
  values = y.first;
  is_row = made_it.is_many ∙ ap (λ (q : Nodes). Many q) whole_is;
  fit = λ v i. each_in (layout w) Value made_values.members
      (members_in (layout w) Value made_values.members made_values.within) v
      (subst (λ (q : Node). In v (parts q)) made_values.is_many i);
  some = ap (λ (q : Node). not (is_empty (parts q))) made_values.is_many
      ∙ (so (not (is_empty (list made_values.members))) (Many made_values.members) (Many made_values.members)
      made_values.settled).0;
  again = λ v g. made (sequence attribute_row) refl refl refl
      (fits.sequence (x.again (More v Nil) (given refl g required over))) refl;
}
  where
    made_it : IsMade (layout w) (sequence attribute_row) a
    made_it = only_made (layout w) (sequence attribute_row) a refl (λ m. refl) f

    inside : FitsSequence (layout w) attribute_row made_it.members
    inside = sequence_in (layout w) attribute_row made_it.members made_it.within

    x : HasFirst (layout w) (plain AnyOid) (plain Values ∷ []) made_it.members
    x = (plain_first (layout w) AnyOid (plain Values ∷ []) made_it.members inside).0

    y : HasFirst (layout w) (plain Values) [] x.others
    y = (plain_first (layout w) Values [] x.others x.rest).0

    whole_is : made_it.members ≡ row (x.first ∷ y.first ∷ [])
    whole_is =
        x.split ∙ ap (λ (q : Nodes). More x.first q) (y.split ∙ ap (λ (q : Nodes). More y.first q)
        (no_more (layout w) y.others y.rest))

    made_values : IsMade (layout w) (ruled some_members (set_of Value)) y.first
    made_values =
        only_made (layout w) (ruled some_members (set_of Value)) y.first refl (λ m. refl)
        ((plain_first (layout w) Values [] x.others x.rest).1 y.first y.others y.split)

-- its values in order are of the same type
in_order_is : (w : Surroundings) (a : Node) (i : IsAttribute w a)
    → in_order a ≡ Many (row (i.type ∷ Many (row (sorted (value_below (type_number i.type)) (parts i.values))) ∷ []))
in_order_is w a i = ap in_order i.is_row

ordered_fits : (w : Surroundings) (a : Node) → IsAttribute w a → Fits (layout w) (layout w Attribute) (in_order a)
ordered_fits w a i =
    subst (λ (x : Node). Fits (layout w) (layout w Attribute) x) (sym (in_order_is w a i))
    (i.again (Many (row s)) (made (ruled some_members (set_of Value)) refl refl refl
    (fits.members (each_of (layout w) Value s (λ v j. i.fit v
    (of_sorted (value_below (type_number i.type)) v (parts i.values) j))))
    (let_through (not (is_empty (list (row s)))) (Many (row s))
    (ap (λ (l : List Node). not (is_empty l)) (list_row s)
    ∙ some_sorted (value_below (type_number i.type)) (parts i.values) i.some))))
  where
    s : List Node
    s = sorted (value_below (type_number i.type)) (parts i.values)

abbrev stored_by : List Node → Option ℕ → Bool
stored_by values None = false
stored_by values (Some k) = list_all (is_of_type k) values && distinct (same_value k) values

stored_sorted : (below : Node → Node → Bool) (vs : List Node) (o : Option ℕ) → stored_by vs o ≡ true
    → stored_by (sorted below vs) o ≡ true
stored_sorted below vs None h = absurd (cc h)
stored_sorted below vs (Some k) h =
    let w = both_true (list_all (is_of_type k) vs) (distinct (same_value k) vs) h in
    and_true (list_all (is_of_type k) (sorted below vs)) (distinct (same_value k) (sorted below vs))
    (all_sorted below (is_of_type k) vs w.0)
    (apart_sorted below (same_value k) (λ x y. octets_turned (normal_in k x) (normal_in k y)) vs w.1)

ordered_stored : (w : Surroundings) (a : Node) → IsAttribute w a → is_stored a ≡ true → is_stored (in_order a) ≡ true
ordered_stored w a i h =
    ap is_stored (in_order_is w a i)
    ∙ ap (λ (l : List Node). stored_by l (known_type i.type))
    (list_row (sorted (value_below (type_number i.type)) (parts i.values)))
    ∙ stored_sorted (value_below (type_number i.type)) (parts i.values) (known_type i.type)
    (sym (ap is_stored i.is_row) ∙ h)

pub type_kept : (a : Node) → attribute_type (in_order a) ≡ attribute_type a
type_kept Vacant = refl
type_kept (Flag b) = refl
type_kept (nodes.Number k) = refl
type_kept (nodes.Oid arcs) = refl
type_kept (nodes.Bits bits) = refl
type_kept (nodes.Octets octets) = refl
type_kept (nodes.Text text) = refl
type_kept (nodes.Chosen tag n) = refl
type_kept (Many Nil) = refl
type_kept (Many (More t Nil)) = refl
type_kept (Many (More t (More v Nil))) = refl
type_kept (Many (More t (More v (More x xs)))) = refl

in_order_stays : (a : Node) → in_order (in_order a) ≡ in_order a
in_order_stays Vacant = refl
in_order_stays (Flag b) = refl
in_order_stays (nodes.Number k) = refl
in_order_stays (nodes.Oid arcs) = refl
in_order_stays (nodes.Bits bits) = refl
in_order_stays (nodes.Octets octets) = refl
in_order_stays (nodes.Text text) = refl
in_order_stays (nodes.Chosen tag n) = refl
in_order_stays (Many Nil) = refl
in_order_stays (Many (More t Nil)) = refl
in_order_stays (Many (More t (More v Nil))) =
    ap (λ (l : List Node). Many (row (t ∷ Many (row (sorted (value_below (type_number t)) l)) ∷ [])))
    (list_row (sorted (value_below (type_number t)) (parts v)))
    ∙ ap (λ (l : List Node). Many (row (t ∷ Many (row l) ∷ [])))
    (sorted_stays (value_below (type_number t)) (λ x y. octets_one_way (normal_in (type_number t) x)
    (normal_in (type_number t) y)) (parts v))
in_order_stays (Many (More t (More v (More x xs)))) = refl

map_fixed : (f : Node → Node) (xs : List Node) → ((x : Node) → In x xs → f x ≡ x) → map f xs ≡ xs
map_fixed f [] h = refl
map_fixed f (x ∷ xs) h = ap₂ (λ (y : Node) (ys : List Node). y ∷ ys) (h x here) (map_fixed f xs (λ z i. h z (there i)))

all_mapped : (xs : List Node) → ((x : Node) → In x xs → is_stored x ≡ true → is_stored (in_order x) ≡ true)
    → list_all is_stored xs ≡ true → list_all is_stored (map in_order xs) ≡ true
all_mapped [] f h = refl
all_mapped (x ∷ xs) f h =
    let w = both_true (is_stored x) (list_all is_stored xs) h in
    and_true (is_stored (in_order x)) (list_all is_stored (map in_order xs)) (f x here w.0)
    (all_mapped xs (λ z i. f z (there i)) w.1)

abbrev entry_row : List Component
entry_row = plain Name ∷ or (Flag true) (plain Boolean) ∷ plain Attributes ∷ []

abbrev kept_attributes : List Node → List Node
kept_attributes xs = sorted attribute_below (map in_order xs)

abbrev entry_test : Node → List Node → Bool
entry_test from xs = is_true from && list_all is_stored xs && distinct same_attribute xs

attribute_turned : (a b : Node) → same_attribute a b ≡ same_attribute b a
attribute_turned a b = by (attribute_type a) (attribute_type b)
  where
    by : (j k : ℕ) → (j == k) ≡ (k == j)
    by j k = grind arith

attributes_stay : (xs : List Node) → kept_attributes (kept_attributes xs) ≡ kept_attributes xs
attributes_stay xs =
    ap (sorted attribute_below) (map_fixed in_order (kept_attributes xs) (λ x i.
    (let w = of_map in_order x xs (of_sorted attribute_below x (map in_order xs) i) in
    ap in_order w.2 ∙ in_order_stays w.0 ∙ sym w.2)))
    ∙ sorted_stays attribute_below (λ x y. number_one_way (attribute_type x) (attribute_type y)) (map in_order xs)

pub entry_closes : (w : Surroundings) → Closes (layout w) (is (ruled entry_rule (sequence entry_row)))
    (ruled entry_rule (sequence entry_row))
entry_closes w m n (ns, is_many, inside) h =
    subst (λ (x : Node). Fits (layout w) (is (ruled entry_rule (sequence entry_row))) x) out.1
    (made (ruled entry_rule (sequence entry_row)) refl refl refl
    (fits.sequence (x.again (More y.first (More (Many (row s)) Nil))
    (y.again (More (Many (row s)) Nil) (given refl attributes_fit required over)))) kept)
  where
    x : HasFirst (layout w) (plain Name) (or (Flag true) (plain Boolean) ∷ plain Attributes ∷ []) ns
    x = (plain_first (layout w) Name (or (Flag true) (plain Boolean) ∷ plain Attributes ∷ []) ns inside).0

    y : HasFirst (layout w) (or (Flag true) (plain Boolean)) (plain Attributes ∷ []) x.others
    y = default_first (layout w) (Flag true) Boolean (plain Attributes ∷ []) x.others x.rest

    z : HasFirst (layout w) (plain Attributes) [] y.others
    z = (plain_first (layout w) Attributes [] y.others y.rest).0

    whole_is : m ≡ Many (row (x.first ∷ y.first ∷ z.first ∷ []))
    whole_is =
        is_many ∙ ap (λ (q : Nodes). Many q) (x.split ∙ ap (λ (q : Nodes). More x.first q) (y.split
        ∙ ap (λ (q : Nodes). More y.first q) (z.split ∙ ap (λ (q : Nodes). More z.first q)
        (no_more (layout w) z.others z.rest))))

    s : List Node
    s = kept_attributes (parts z.first)

    out : (entry_test y.first (parts z.first) ≡ true) × (Many
        (row (x.first ∷ y.first ∷ Many (row (kept_attributes (parts z.first))) ∷ [])) ≡ n)
    out = so (entry_test y.first (parts z.first)) (Many (row
        (x.first ∷ y.first ∷ Many (row (kept_attributes (parts z.first))) ∷ []))) n
        (ap entry_rule (sym whole_is) ∙ h)

    made_attributes : IsMade (layout w) (set_of Attribute) z.first
    made_attributes =
        only_made (layout w) (set_of Attribute) z.first refl (λ q. refl)
        ((plain_first (layout w) Attributes [] y.others y.rest).1 z.first z.others z.split)

    one : (a : Node) → In a (parts z.first) → IsAttribute w a
    one a i =
        attribute_is w a (each_in (layout w) Attribute made_attributes.members
        (members_in (layout w) Attribute made_attributes.members made_attributes.within) a
        (subst (λ (q : Node). In a (parts q)) made_attributes.is_many i))

    attributes_fit : Fits (layout w) (layout w Attributes) (Many (row (kept_attributes (parts z.first))))
    attributes_fit =
        made (set_of Attribute) refl refl refl (fits.members
        (each_of (layout w) Attribute (kept_attributes (parts z.first)) (λ a i.
        (let v = of_map in_order a (parts z.first) (of_sorted attribute_below a (map in_order (parts z.first)) i) in
        subst (λ (q : Node). Fits (layout w) (layout w Attribute) q) (sym v.2) (ordered_fits w v.0 (one v.0 v.1))))))
        refl

    passes : entry_test y.first (kept_attributes (parts z.first)) ≡ true
    passes =
        let a = both_true (is_true y.first && list_all is_stored (parts z.first))
        (distinct same_attribute (parts z.first)) out.0 in
        let b = both_true (is_true y.first) (list_all is_stored (parts z.first)) a.0 in
        and_true (is_true y.first && list_all is_stored (kept_attributes (parts z.first)))
        (distinct same_attribute (kept_attributes (parts z.first)))
        (and_true (is_true y.first) (list_all is_stored (kept_attributes (parts z.first))) b.0
        (all_sorted attribute_below is_stored (map in_order (parts z.first))
        (all_mapped (parts z.first) (λ q i. ordered_stored w q (one q i)) b.1)))
        (apart_sorted attribute_below same_attribute attribute_turned (map in_order (parts z.first))
        (apart_mapped in_order same_attribute
        (λ p q. ap₂ (λ (j k : ℕ). j == k) (type_kept p) (type_kept q)) (parts z.first) ∙ a.1))

    kept : entry_rule (Many (row (x.first ∷ y.first ∷ Many (row (kept_attributes (parts z.first))) ∷ [])))
        ≡ Some (Many (row (x.first ∷ y.first ∷ Many (row (kept_attributes (parts z.first))) ∷ [])))
    kept =
        ap (λ (l : List Node). where_so (entry_test y.first l)
        (Many (row (x.first ∷ y.first ∷ Many (row (kept_attributes l)) ∷ []))))
        (list_row (kept_attributes (parts z.first)))
        ∙ ap (λ (l : List Node). where_so (entry_test y.first (kept_attributes (parts z.first)))
        (Many (row (x.first ∷ y.first ∷ Many (row l) ∷ []))))
        (attributes_stay (parts z.first))
        ∙ let_through (entry_test y.first (kept_attributes (parts z.first)))
        (Many (row (x.first ∷ y.first ∷ Many (row (kept_attributes (parts z.first))) ∷ []))) passes
