-- An entry whose types and values are in order is kept as it is by the rule of the entries of refreshes.
use Rattle.std.proofs.Common.{◌≡◌, ℕ, Bool, true, false, not, ◌&&◌, ◌||◌, ◌==◌, nat_lt, inl, inr, List, [], ◌∷◌, map, refl, sym, ap, ap₂, subst, ◌∙◌, arith}
use Rattle.std.proofs.lemmas.Bool.{eqb-true, lt-ltb, ltb-true}
use Rattle.std.specs.Cmp.Lexicographic.{bytes_decides, nat_list_cmp_total, slice_cmp}
use Rattle.std.specs.List.{list_all}
use Rattle.std.specs.Ordering.{is_lt, ordering_reverse, nat_cmp}
use Rattle.std.specs.declared.cmp.Ordering.{Ordering}
use Rattle.std.specs.declared.cmp.Ordering.TheVariants.{Less, Equal, Greater}
use Rattle.std.specs.declared.option.Option.{Option}
use Rattle.std.specs.declared.option.Option.TheVariants.{Some}
use Rattle.x5_model.specs.Attributes.{kind_below}
use Rattle.x5_model.specs.Attributes as attributes
use Rattle.x5_model.specs.Entries.{Stored, Named}
use Rattle.x5_model.specs.Members.{In, here, there}
use Rattle.x5_model.specs.Normal.{is_of_kind, normal_form}
use Rattle.x5_model.specs.Types.{is_known, kind_of}
use Rattle.x5_model.specs.Values.{Known, Value, StoredValue}
use Rattle.x5_model.specs.Words.{ascending, distinct, has, in_option, is_empty, octets_below, same_octets, sorted}
use Rattle.x5_model.proofs.Ascending.{first_below, rest_ascending, sorted_itself}
use Rattle.x5_model.proofs.Lists.{all_in, and_true, both_true, of_all, of_map, true_or_false}
use Rattle.x5_model_messages.specs.Shadows.{entry_node, stored_node}
use Rattle.x5_model_messages.specs.Terms.{name_node, node_of, type_node, value_node}
use Rattle.x5_model_messages.proofs.Requests.{value_back}
use Rattle.x5_model_typed.specs.Leaves.{where_so}
use Rattle.x5_model_typed.specs.Nodes.{Node, Flag, row, list}
use Rattle.x5_model_typed.specs.Rules.{attribute_below, attribute_type, entry_rule, in_order, is_of_type, is_stored, is_true}
use Rattle.x5_model_typed.specs.Rules.{normal_in, same_attribute, same_value, type_number, value_below, value_in}
use Rattle.x5_model_typed.proofs.Laws.{list_row}
use Rattle.x5_model_typed_laws.proofs.Leaves.{let_through}
use Rattle.x5_model_fitting.proofs.Names.{known_number}
use Rattle.x5_model_fitting.proofs.Terms.{value_said}
use Rattle.x5_model_fitting.specs.Names.{Each}
use Rattle.x5_model_shadowed.specs.Within.{StoredValueWithin, StoredWithin, EntryWithin}

-- ---- lists in order

module _ {A : Type 0} (below same : A → A → Bool)
    (chain : (x y z : A) → below x y ≡ true → below y z ≡ true → below x z ≡ true)
    (apart : (x y : A) → below x y ≡ true → same y x ≡ false)
  where
    none_has : (x : A) (xs : List A) → ((z : A) → In z xs → below x z ≡ true) → has same xs x ≡ false
    none_has x [] h = refl
    none_has x (y ∷ ys) h =
        ap₂ (λ (a b : Bool). a || b) (apart x y (h y here)) (none_has x ys (λ z i. h z (there i)))

    pub once : (xs : List A) → ascending below xs ≡ true → distinct same xs ≡ true
    once [] h = refl
    once (x ∷ xs) h =
        and_true (not (has same xs x)) (distinct same xs)
        (ap not (none_has x xs (λ z i. first_below below chain x z xs h i)))
        (once xs (rest_ascending below chain x xs h))

ascending_mapped : {A B : Type 0} (f : A → B) (p : A → A → Bool) (q : B → B → Bool) (xs : List A)
    → ((x y : A) → In x xs → In y xs → q (f x) (f y) ≡ p x y) → ascending q (map f xs) ≡ ascending p xs
ascending_mapped f p q [] h = refl
ascending_mapped f p q (x ∷ []) h = refl
ascending_mapped f p q (x ∷ y ∷ xs) h =
    ap₂ (λ (a b : Bool). a && b) (h x y here (there here))
    (ascending_mapped f p q (y ∷ xs) (λ v w i j. h v w (there i) (there j)))

map_stays : {A B : Type 0} (f : A → B) (g : B → B) (xs : List A) → ((x : A) → In x xs → g (f x) ≡ f x)
    → map g (map f xs) ≡ map f xs
map_stays f g [] h = refl
map_stays {A} {B} f g (x ∷ xs) h =
    ap₂ (λ (y : B) (ys : List B). y ∷ ys) (h x here) (map_stays f g xs (λ y i. h y (there i)))

-- ---- numbers and octets

less_chain : (a b c : ℕ) → nat_lt a b ≡ true → nat_lt b c ≡ true → nat_lt a c ≡ true
less_chain a b c p q = lt-ltb a c (omega (arith, ltb-true a b p, ltb-true b c q))

never_less : (a : ℕ) → nat_lt a a ≡ true → ⊥
never_less a h = absurd (omega (arith, ltb-true a a h))

less_apart : (a b : ℕ) → nat_lt a b ≡ true → (b == a) ≡ false
less_apart a b h =
    elim (true_or_false (b == a)) [
      | inl e ↦ absurd (omega (arith, eqb-true b a e, ltb-true a b h))
      | inr e ↦ e
    ]

is_less : (o : Ordering) → is_lt o ≡ true → o ≡ Less
is_less Less e = refl
is_less Equal e = absurd (cc e)
is_less Greater e = absurd (cc e)

octets_chain : (x y z : List ℕ) → octets_below x y ≡ true → octets_below y z ≡ true → octets_below x z ≡ true
octets_chain x y z p q = ap is_lt (nat_list_cmp_total.trans x y z (is_less _ p) (is_less _ q))

never_below : (x : List ℕ) → octets_below x x ≡ true → ⊥
never_below x h =
    let less = is_less (slice_cmp nat_cmp x x) h in
    let no : (let o : Ordering = Less in o) ≡ Greater = sym less ∙ nat_list_cmp_total.antisymm x x ∙ ap ordering_reverse less in
    cc no

octets_apart : (x y : List ℕ) → octets_below x y ≡ true → same_octets y x ≡ false
octets_apart x y h =
    elim (true_or_false (same_octets y x)) [
      | inl e ↦ absurd (never_below x (subst (λ (z : List ℕ). octets_below x z ≡ true) ((bytes_decides y x).0 e) h))
      | inr e ↦ e
    ]

-- ---- the values of an attribute

abbrev said : StoredValue → Node
said v = value_node v.value

said_back : (k : ℕ) (v : StoredValue) → StoredValueWithin k v → value_in (said v) ≡ v.value
said_back k v h = value_back v.value (value_said v.value h.value)

normal_said : (k : ℕ) (v : StoredValue) → StoredValueWithin k v → normal_in k (said v) ≡ v.normal
normal_said k v h =
    ap (λ (x : Value). normal_form (kind_of k) x) (said_back k v h) ∙ sym (ap (λ (x : StoredValue). x.normal) h.normal)

values_of_type : (k : ℕ) (vs : List StoredValue) → Each (StoredValueWithin k) vs
    → list_all (is_of_type k) (map said vs) ≡ true
values_of_type k vs h =
    all_in (is_of_type k) (map said vs) (λ n i.
    (let w = of_map said n vs i in
    let s = h w.0 w.1 in
    subst (λ (x : Node). is_of_type k x ≡ true) (sym w.2)
    (ap (λ (x : Value). is_of_kind (kind_of k) x) (said_back k w.0 s) ∙ s.is)))

values_ascend : (k : ℕ) (vs : List StoredValue) → Each (StoredValueWithin k) vs
    → ascending attributes.value_below vs ≡ true → ascending (value_below k) (map said vs) ≡ true
values_ascend k vs h up =
    ascending_mapped said attributes.value_below (value_below k) vs
    (λ x y i j. ap₂ octets_below (normal_said k x (h x i)) (normal_said k y (h y j))) ∙ up

value_chain : (k : ℕ) (x y z : Node) → value_below k x y ≡ true → value_below k y z ≡ true → value_below k x z ≡ true
value_chain k x y z p q = octets_chain (normal_in k x) (normal_in k y) (normal_in k z) p q

values_once : (k : ℕ) (ns : List Node) → ascending (value_below k) ns ≡ true → distinct (same_value k) ns ≡ true
values_once k ns up =
    once (value_below k) (same_value k) (value_chain k) (λ x y h. octets_apart (normal_in k x) (normal_in k y) h) ns up

values_stay : (k : ℕ) (ns : List Node) → ascending (value_below k) ns ≡ true → sorted (value_below k) ns ≡ ns
values_stay k ns up = sorted_itself (value_below k) (value_chain k) (λ x h. never_below (normal_in k x) h) ns up

-- ---- attributes

type_said : (k : ℕ) → is_known k ≡ true → type_number (type_node (Known k)) ≡ k
type_said k h = ap (λ (o : Option ℕ). in_option 0 (λ j. j) o) (known_number k h)

abbrev AreOrdered : Stored → Type 0
AreOrdered a = ascending attributes.value_below a.values ≡ true

stored_passes : (a : Stored) → StoredWithin a → AreOrdered a → is_stored (stored_node a) ≡ true
stored_passes a h up =
    let ns = map said a.values in
    let rising = values_ascend a.kind a.values h.values up in
    let good : (list_all (is_of_type a.kind) ns && distinct (same_value a.kind) ns) ≡ true =
    and_true (list_all (is_of_type a.kind) ns) (distinct (same_value a.kind) ns) (values_of_type a.kind a.values h.values)
    (values_once a.kind ns rising) in
    let e = known_number a.kind h.type in
    rw e (ap (λ (l : List Node). list_all (is_of_type a.kind) l && distinct (same_value a.kind) l) (list_row ns) ∙ good)

stored_stays : (a : Stored) → StoredWithin a → AreOrdered a → in_order (stored_node a) ≡ stored_node a
stored_stays a h up =
    let ns = map said a.values in
    let type = type_node (Known a.kind) in
    let rising = values_ascend a.kind a.values h.values up in
    ap (λ (k : ℕ). node_of (type ∷ node_of (sorted (value_below k) (list (row ns))) ∷ [])) (type_said a.kind h.type)
    ∙ ap (λ (l : List Node). node_of (type ∷ node_of l ∷ []))
    (ap (sorted (value_below a.kind)) (list_row ns) ∙ values_stay a.kind ns rising)

type_of_stored : (a : Stored) → StoredWithin a → attribute_type (stored_node a) ≡ a.kind
type_of_stored a h = type_said a.kind h.type

-- ---- entries

attribute_chain : (x y z : Node) → attribute_below x y ≡ true → attribute_below y z ≡ true → attribute_below x z ≡ true
attribute_chain x y z p q = less_chain (attribute_type x) (attribute_type y) (attribute_type z) p q

attributes_once : (ns : List Node) → ascending attribute_below ns ≡ true → distinct same_attribute ns ≡ true
attributes_once ns up =
    once attribute_below same_attribute attribute_chain (λ x y h. less_apart (attribute_type x) (attribute_type y) h) ns up

attributes_ascend : (as' : List Stored) → Each StoredWithin as' → ascending kind_below as' ≡ true
    → ascending attribute_below (map stored_node as') ≡ true
attributes_ascend as' h up =
    ascending_mapped stored_node kind_below attribute_below as'
    (λ x y i j. ap₂ nat_lt (type_of_stored x (h x i)) (type_of_stored y (h y j))) ∙ up

abbrev passes : List Node → Bool
passes xs = is_true (Flag true) && list_all is_stored xs && distinct same_attribute xs

abbrev kept : Node → List Node → Node
kept name xs = node_of (name ∷ Flag true ∷ node_of xs ∷ [])

pub entry_kept : (e : Named) → EntryWithin e → entry_rule (entry_node e) ≡ Some (entry_node e)
entry_kept e h =
    ap (λ (l : List Node). where_so (passes l) (kept name (sorted attribute_below (map in_order l)))) (list_row nodes)
    ∙ ap (λ (l : List Node). where_so (passes nodes) (kept name l)) same
    ∙ let_through (passes nodes) (entry_node e) pass
  where
    name : Node
    name = name_node e.name

    nodes : List Node
    nodes = map stored_node e.entry.attributes

    is : (ascending kind_below e.entry.attributes ≡ true)
        × (list_all (λ a. not (is_empty a.values) && ascending attributes.value_below a.values) e.entry.attributes ≡ true)
    is = both_true (ascending kind_below e.entry.attributes)
        (list_all (λ (a : Stored). not (is_empty a.values) && ascending attributes.value_below a.values) e.entry.attributes)
        h.ordered

    ordered : (a : Stored) → In a e.entry.attributes → AreOrdered a
    ordered a i =
        (both_true (not (is_empty a.values)) (ascending attributes.value_below a.values)
        (of_all (λ (b : Stored). not (is_empty b.values) && ascending attributes.value_below b.values) a e.entry.attributes
        is.1 i)).1

    rising : ascending attribute_below nodes ≡ true
    rising = attributes_ascend e.entry.attributes h.attributes is.0

    same : sorted attribute_below (map in_order nodes) ≡ nodes
    same =
        ap (sorted attribute_below)
        (map_stays stored_node in_order e.entry.attributes (λ a i. stored_stays a (h.attributes a i) (ordered a i)))
        ∙ sorted_itself attribute_below attribute_chain (λ x j. never_less (attribute_type x) j) nodes rising

    pass : passes nodes ≡ true
    pass =
        and_true (true && list_all is_stored nodes) (distinct same_attribute nodes)
        (all_in is_stored nodes (λ n i.
        (let w = of_map stored_node n e.entry.attributes i in
        subst (λ (x : Node). is_stored x ≡ true) (sym w.2) (stored_passes w.0 (h.attributes w.0 w.1) (ordered w.0 w.1)))))
        (attributes_once nodes rising)
