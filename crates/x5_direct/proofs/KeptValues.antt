-- An attribute of an entry whose values stand in the order of their normal forms is kept as it is.
use Rattle.std.proofs.Common.{◌≡◌, ℕ, Bool, true, false, not, ◌&&◌, ◌==◌, inl, inr, List, [], ◌∷◌, ◌++◌, ◌-◌, length, map, refl, sym, ap, ap₂, subst, ◌∙◌, arith}
use Rattle.std.specs.Prelude.{slice_get}
use Rattle.std.specs.Cmp.Lexicographic.{bytes_decides, nat_list_cmp_total, slice_cmp}
use Rattle.std.specs.List.{list_all}
use Rattle.std.specs.Ordering.{is_lt, ordering_reverse, nat_cmp}
use Rattle.std.specs.declared.cmp.Ordering.{Ordering}
use Rattle.std.specs.declared.cmp.Ordering.TheVariants.{Less, Equal, Greater}
use Rattle.std.specs.declared.option.Option.{Option}
use Rattle.std.specs.declared.option.Option.TheVariants.{None, Some}
use Rattle.x5_model.specs.Attributes as attributes
use Rattle.x5_model.specs.Entries.{Stored}
use Rattle.x5_model.specs.Normal.{is_of_kind}
use Rattle.x5_model.specs.Types.{is_known, kind_of}
use Rattle.x5_model.specs.Values.{Known, StoredValue}
use Rattle.x5_model.specs.Words.{ascending, distinct, in_option, is_empty, last_of, octets_below, same_octets, sorted}
use Rattle.x5_model.proofs.Ascending.{sorted_itself}
use Rattle.x5_model.proofs.Lists.{and_true, both_true, true_or_false}
use Rattle.x5_ops.proofs.EntryOrder.{value_chain}
use Rattle.x5_model_messages.specs.Shadows.{stored_in}
use Rattle.x5_model_messages.specs.Terms.{node_of, type_node}
use Rattle.x5_model_fitting.proofs.Names.{known_number}
use Rattle.x5_model_shadowed.proofs.Ordered.{once}
use Rattle.x5_model_typed.specs.Leaves.{where_so}
use Rattle.x5_model_typed.specs.Nodes.{Node, row, list}
use Rattle.x5_model_typed.specs.Rules.{in_order, is_of_type, is_stored, normal_in, same_value, type_number, value_below}
use Rattle.x5_model_typed.proofs.Laws.{list_row}
use Rattle.x5_direct.specs.Kept.{kept_in, stored_as}

-- ---- lists in order

pub ascending_mapped : {A B : Type 0} (f : A → B) (p : A → A → Bool) (q : B → B → Bool)
    → ((x y : A) → q (f x) (f y) ≡ p x y) → (xs : List A) → ascending q (map f xs) ≡ ascending p xs
ascending_mapped f p q h [] = refl
ascending_mapped f p q h (x ∷ []) = refl
ascending_mapped f p q h (x ∷ y ∷ xs) = ap₂ ◌&&◌ (h x y) (ascending_mapped f p q h (y ∷ xs))

-- one more that stands behind the last
pub ascending_more : {A : Type 0} (below : A → A → Bool) (xs : List A) (x : A) → ascending below xs ≡ true
    → in_option true (λ last. below last x) (last_of xs) ≡ true → ascending below (xs ++ (x ∷ [])) ≡ true
ascending_more below [] x h e = refl
ascending_more below (y ∷ []) x h e = and_true (below y x) true e refl
ascending_more below (y ∷ z ∷ ys) x h e =
    let w = both_true (below y z) (ascending below (z ∷ ys)) h in
    and_true (below y z) (ascending below (z ∷ (ys ++ (x ∷ [])))) w.0 (ascending_more below (z ∷ ys) x w.1 e)

-- whether it does, by the place of the last
at_last : {A : Type 0} (x : A) (xs : List A) → slice_get (x ∷ xs) (length xs) ≡ last_of (x ∷ xs)
at_last x [] = refl
at_last x (y ∷ ys) = at_last y ys

last_at : {A : Type 0} (xs : List A) → slice_get xs (length xs - 1) ≡ last_of xs
last_at [] = refl
last_at (x ∷ xs) =
    let one : length (x ∷ xs) - 1 ≡ length xs = omega arith in
    ap (slice_get (x ∷ xs)) one ∙ at_last x xs

pub last_follows : {A : Type 0} (below : A → A → Bool) (xs : List A) (last x : A) (b : Bool)
    → Some last ≡ slice_get xs (length xs - 1) → b ≡ below last x → b ≡ in_option true (λ y. below y x) (last_of xs)
last_follows {A} below xs last x b e f =
    f ∙ ap (λ (o : Option A). in_option true (λ y. below y x) o) (e ∙ last_at xs)

pub all_more : {A : Type 0} (test : A → Bool) (xs : List A) (x : A) → list_all test xs ≡ true → test x ≡ true
    → list_all test (xs ++ (x ∷ [])) ≡ true
all_more test [] x h e = and_true (test x) true e refl
all_more test (y ∷ ys) x h e =
    let w = both_true (test y) (list_all test ys) h in
    and_true (test y) (list_all test (ys ++ (x ∷ []))) w.0 (all_more test ys x w.1 e)

pub something_left : {A : Type 0} (xs : List A) → (length xs == 0) ≡ false → is_empty xs ≡ false
something_left [] h = absurd (cc h)
something_left (x ∷ xs) h = refl

-- ---- normal forms

is_less : (o : Ordering) → is_lt o ≡ true → o ≡ Less
is_less Less e = refl
is_less Equal e = absurd (cc e)
is_less Greater e = absurd (cc e)

never_below : (x : List ℕ) → octets_below x x ≡ true → ⊥
never_below x h =
    let less = is_less (slice_cmp nat_cmp x x) h in
    let no : (let o : Ordering = Less in o) ≡ Greater = sym less ∙ nat_list_cmp_total.antisymm x x ∙ ap ordering_reverse less in
    cc no

octets_apart : (x y : List ℕ) → octets_below x y ≡ true → same_octets y x ≡ false
octets_apart x y h =
    elim (true_or_false (same_octets y x)) [
      | inl e ↦ absurd (never_below x (subst (λ (z : List ℕ). octets_below x z ≡ true) ((bytes_decides y x).0 e) h))
      | inr e ↦ e
    ]

-- ---- the values of an attribute

chain : (k : ℕ) (x y z : Node) → value_below k x y ≡ true → value_below k y z ≡ true → value_below k x z ≡ true
chain k x y z p q = value_chain (stored_as k x) (stored_as k y) (stored_as k z) p q

nodes_ascend : (k : ℕ) (ns : List Node) → ascending attributes.value_below (map (stored_as k) ns) ≡ true
    → ascending (value_below k) ns ≡ true
nodes_ascend k ns up =
    sym (ascending_mapped (stored_as k) (value_below k) attributes.value_below (λ x y. refl) ns) ∙ up

values_once : (k : ℕ) (ns : List Node) → ascending (value_below k) ns ≡ true → distinct (same_value k) ns ≡ true
values_once k ns up =
    once (value_below k) (same_value k) (chain k) (λ x y h. octets_apart (normal_in k x) (normal_in k y) h) ns up

values_stay : (k : ℕ) (ns : List Node) → ascending (value_below k) ns ≡ true → sorted (value_below k) ns ≡ ns
values_stay k ns up = sorted_itself (value_below k) (chain k) (λ x h. never_below (normal_in k x) h) ns up

abbrev is_value : ℕ → StoredValue → Bool
is_value k v = is_of_kind (kind_of k) v.value

of_type : (k : ℕ) (ns : List Node) → list_all (is_value k) (map (stored_as k) ns) ≡ true → list_all (is_of_type k) ns ≡ true
of_type k [] h = refl
of_type k (n ∷ ns) h =
    let w = both_true (is_of_type k n) (list_all (is_value k) (map (stored_as k) ns)) h in
    and_true (is_of_type k n) (list_all (is_of_type k) ns) w.0 (of_type k ns w.1)

-- ---- an attribute

type_said : (k : ℕ) → is_known k ≡ true → type_number (type_node (Known k)) ≡ k
type_said k h = ap (λ (o : Option ℕ). in_option 0 (λ j. j) o) (known_number k h)

abbrev pub attribute_of : ℕ → List Node → Node
attribute_of k ns = node_of (type_node (Known k) ∷ node_of ns ∷ [])

passes : (k : ℕ) (ns : List Node) → is_known k ≡ true → list_all (is_of_type k) ns ≡ true
    → distinct (same_value k) ns ≡ true → is_stored (attribute_of k ns) ≡ true
passes k ns h kinds once' =
    let good = and_true (list_all (is_of_type k) ns) (distinct (same_value k) ns) kinds once' in
    let e = known_number k h in
    rw e (ap (λ (l : List Node). list_all (is_of_type k) l && distinct (same_value k) l) (list_row ns) ∙ good)

stays : (k : ℕ) (ns : List Node) → is_known k ≡ true → ascending (value_below k) ns ≡ true
    → in_order (attribute_of k ns) ≡ attribute_of k ns
stays k ns h up =
    let type = type_node (Known k) in
    ap (λ (j : ℕ). node_of (type ∷ node_of (sorted (value_below j) (list (row ns))) ∷ [])) (type_said k h)
    ∙ ap (λ (l : List Node). node_of (type ∷ node_of l ∷ []))
    (ap (sorted (value_below k)) (list_row ns) ∙ values_stay k ns up)

said : (k : ℕ) (ns : List Node) → is_known k ≡ true
    → stored_in (attribute_of k ns) ≡ record { kind = k; values = map (stored_as k) ns }
said k ns h =
    ap (λ (j : ℕ). record { kind = j; values = map (stored_as j) (list (row ns)) }) (type_said k h)
    ∙ ap (λ (l : List Node). record { kind = k; values = map (stored_as k) l }) (list_row ns)

some_kept : (b : Bool) (a c : Stored) → b ≡ true → a ≡ c → where_so b a ≡ Some c
some_kept b a c h e = rw (h, e) refl

pub attribute_kept : (k : ℕ) (vs : List StoredValue) (ns : List Node) → is_known k ≡ true → vs ≡ map (stored_as k) ns
    → list_all (λ v. is_of_kind (kind_of k) v.value) vs ≡ true → ascending attributes.value_below vs ≡ true
    → kept_in (attribute_of k ns) ≡ Some (record { kind = k; values = vs })
attribute_kept k vs ns h e kinds up =
    let rising = nodes_ascend k ns (subst (λ (l : List StoredValue). ascending attributes.value_below l ≡ true) e up) in
    let types = of_type k ns (subst (λ (l : List StoredValue). list_all (is_value k) l ≡ true) e kinds) in
    some_kept (is_stored (attribute_of k ns)) (stored_in (in_order (attribute_of k ns))) (record { kind = k; values = vs })
    (passes k ns h types (values_once k ns rising))
    (ap stored_in (stays k ns h rising) ∙ said k ns h
    ∙ ap (λ (l : List StoredValue). record { kind = k; values = l }) (sym e))
