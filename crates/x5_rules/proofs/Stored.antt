-- Attributes and entries that are kept with their last part in order.
use Rattle.std.proofs.Common.{◌≡◌, ◌==◌, ◌&&◌, ◌++◌, ℕ, Bool, true, false, List, [], ◌∷◌, map, refl, ap, sym, ◌∙◌}
use Rattle.std.proofs.Common.{◌≤◌, ◌<◌, length, get_or, arith, Vec, Global}
use Rattle.std.proofs.lemmas.List.{map-append}
use Rattle.std.specs.List.{list_all}
use Rattle.std.specs.Option.{option_map}
use Rattle.std.specs.declared.option.Option.{Option}
use Rattle.std.specs.declared.option.Option.TheVariants.{None, Some}
use Rattle.x5_model.specs.Words.{distinct, has, sorted}
use Rattle.x5_model_typed.specs.Leaves.{where_so}
use Rattle.x5_model_typed.specs.Nodes as nodes
use Rattle.x5_model_typed.specs.Rules as rules
use Rattle.x5_types.specs.declared.node.Node.{Node, Many}
use Rattle.x5_types.specs.NodeView.{node_view, IsNotTwo, none, one, three}
use Rattle.x5_types.proofs.Nodes.{parts_are, many_is, many_of_items}
use Rattle.x5_rules.specs.Stored.{stored_type_in, from_entry_in}
use Rattle.x5_rules.proofs.Once.{each_once}

mapped : {X Y : Type 0} (f : X → Y) (b : Bool) (o : Option X) (x : X) → o ≡ where_so b x → option_map f o ≡ where_so b (f x)
mapped f true o x e = ap (option_map f) e
mapped f false o x e = ap (option_map f) e

-- with the last part in order
abbrev with_last : List Node → List nodes.Node → nodes.Node
with_last front ns = nodes.Many (nodes.row (map node_view front ++ (nodes.Many (nodes.row ns) ∷ [])))

pub last_is : (w vals : Vec Node Global) (front : List Node) → w.items ≡ front ++ (Many vals ∷ [])
    → node_view (Many w) ≡ with_last front (map node_view vals.items)
last_is w vals front e =
    many_is w (front ++ (Many vals ∷ [])) e
    ∙ ap (λ (l : List nodes.Node). nodes.Many (nodes.row l)) (map-append node_view front (Many vals ∷ []))
    ∙ ap (λ (n : nodes.Node). nodes.Many (nodes.row (map node_view front ++ (n ∷ [])))) (sym (many_of_items vals))

parts_of : (v : Vec Node Global) (front : List Node) (b : Node) → v.items ≡ front ++ (b ∷ [])
    → nodes.parts (node_view (Many v)) ≡ map node_view (front ++ (b ∷ []))
parts_of v front b e = parts_are v ∙ ap (λ (l : List Node). map node_view l) e

-- ---- attributes

abbrev values_test : ℕ → List nodes.Node → Bool
values_test k vs = each_once (rules.is_of_type k) (rules.same_value k) vs

stored_is : (n : nodes.Node) (front : List Node) (b : Node) (k : ℕ) → nodes.parts n ≡ map node_view (front ++ (b ∷ []))
    → stored_type_in (map node_view (front ++ (b ∷ []))) ≡ Some k
    → where_so (values_test k (nodes.parts (node_view b))) (with_last front (sorted (rules.value_below k) (nodes.parts (node_view b))))
    ≡ where_so (rules.is_stored n) (rules.in_order n)
stored_is n [] b k e kind = absurd (cc kind)
stored_is n (a ∷ []) b k e kind = rw (e, kind) refl
stored_is n (a ∷ a' ∷ []) b k e kind = absurd (cc kind)
stored_is n (a ∷ a' ∷ a'' ∷ front) b k e kind = absurd (cc kind)

pub stored_option : (v : Vec Node Global) (front : List Node) (b : Node) (k : ℕ) (o : Option (List nodes.Node))
    → v.items ≡ front ++ (b ∷ []) → stored_type_in (nodes.parts (node_view (Many v))) ≡ Some k
    → o ≡ where_so (values_test k (nodes.parts (node_view b))) (sorted (rules.value_below k) (nodes.parts (node_view b)))
    → option_map (with_last front) o ≡ where_so (rules.is_stored (node_view (Many v))) (rules.in_order (node_view (Many v)))
stored_option v front b k o e kind h =
    let parts = parts_of v front b e in
    mapped (with_last front) (values_test k (nodes.parts (node_view b))) o (sorted (rules.value_below k) (nodes.parts (node_view b))) h
    ∙ stored_is (node_view (Many v)) front b k parts (sym (ap stored_type_in parts) ∙ kind)

-- a type and values are two parts
pub typed : (l : List Node) (a : Node) → 2 ≤ length l → length l < 3 → a ≡ get_or l 0 a
    → rules.known_type (node_view a) ≡ stored_type_in (map node_view l)
typed [] a more few e = absurd (omega arith)
typed (x ∷ []) a more few e = absurd (omega arith)
typed (x ∷ y ∷ []) a more few e = ap (λ (n : Node). rules.known_type (node_view n)) e
typed (x ∷ y ∷ z ∷ l) a more few e = absurd (omega arith)

pub not_typed : (l : List Node) → (length l ≡ 2 → ⊥) → None ≡ stored_type_in (map node_view l)
not_typed [] h = refl
not_typed (x ∷ []) h = refl
not_typed (x ∷ y ∷ []) h = absurd (h refl)
not_typed (x ∷ y ∷ z ∷ l) h = refl

not_stored : (n : nodes.Node) (l : List nodes.Node) → nodes.parts n ≡ l → stored_type_in l ≡ None
    → None ≡ where_so (rules.is_stored n) (rules.in_order n)
not_stored n [] e h = rw e refl
not_stored n (a ∷ []) e h = rw e refl
not_stored n (a ∷ b ∷ []) e h = rw (e, h) refl
not_stored n (a ∷ b ∷ c ∷ l) e h = rw e refl

pub untyped : (n : nodes.Node) → stored_type_in (nodes.parts n) ≡ None → None ≡ where_so (rules.is_stored n) (rules.in_order n)
untyped n h = not_stored n (nodes.parts n) refl h

-- ---- entries

abbrev entry_test : List nodes.Node → Bool
entry_test as' = each_once rules.is_stored rules.same_attribute as'

abbrev in_order_all : List nodes.Node → List nodes.Node
in_order_all as' = sorted rules.attribute_below (map rules.in_order as')

entry_is : (n : nodes.Node) (front : List Node) (b : Node) → nodes.parts n ≡ map node_view (front ++ (b ∷ []))
    → from_entry_in (map node_view (front ++ (b ∷ []))) ≡ true
    → where_so (entry_test (nodes.parts (node_view b))) (with_last front (in_order_all (nodes.parts (node_view b)))) ≡ rules.entry_rule n
entry_is n [] b e from = absurd (cc from)
entry_is n (a ∷ []) b e from = absurd (cc from)
entry_is n (a ∷ a' ∷ []) b e from = rw (e, from) refl
entry_is n (a ∷ a' ∷ a'' ∷ front) b e from = absurd (cc (longer front from))
  where
    longer : (l : List Node) → from_entry_in (map node_view (a ∷ a' ∷ a'' ∷ (l ++ (b ∷ [])))) ≡ true → false ≡ true
    longer [] h = h
    longer (c ∷ l) h = h

pub entry_option : (v : Vec Node Global) (front : List Node) (b : Node) (o : Option (List nodes.Node))
    → v.items ≡ front ++ (b ∷ []) → from_entry_in (nodes.parts (node_view (Many v))) ≡ true
    → o ≡ where_so (entry_test (nodes.parts (node_view b))) (in_order_all (nodes.parts (node_view b)))
    → option_map (with_last front) o ≡ rules.entry_rule (node_view (Many v))
entry_option v front b o e from h =
    let parts = parts_of v front b e in
    mapped (with_last front) (entry_test (nodes.parts (node_view b))) o (in_order_all (nodes.parts (node_view b))) h
    ∙ entry_is (node_view (Many v)) front b parts (sym (ap from_entry_in parts) ∙ from)

not_entry : (n : nodes.Node) (l : List nodes.Node) → nodes.parts n ≡ l → from_entry_in l ≡ false → None ≡ rules.entry_rule n
not_entry n [] e h = rw e refl
not_entry n (a ∷ []) e h = rw e refl
not_entry n (a ∷ b ∷ []) e h = rw e refl
not_entry n (a ∷ b ∷ c ∷ []) e h = rw (e, h) refl
not_entry n (a ∷ b ∷ c ∷ d ∷ l) e h = rw e refl

pub no_entry : (n : nodes.Node) → from_entry_in (nodes.parts n) ≡ false → None ≡ rules.entry_rule n
no_entry n h = not_entry n (nodes.parts n) refl h

-- ---- an attribute in order is of the type that it was of

unordered : (a : nodes.Node) (l : List nodes.Node) → nodes.parts a ≡ l → IsNotTwo l → rules.in_order a ≡ a
unordered a [] e none = rw e refl
unordered a (x ∷ []) e one = rw e refl
unordered a (x ∷ y ∷ z ∷ l) e three = rw e refl
unordered a (x ∷ (y ∷ [])) e p = elim p [ ]

type_is : (a x y : nodes.Node) → nodes.parts a ≡ x ∷ y ∷ [] → rules.attribute_type a ≡ rules.type_number x
type_is a x y e = rw e refl

ordered_is : (a x y : nodes.Node) → nodes.parts a ≡ x ∷ y ∷ []
    → rules.in_order a
    ≡ nodes.Many (nodes.row (x ∷ nodes.Many (nodes.row (sorted (rules.value_below (rules.type_number x)) (nodes.parts y))) ∷ []))
ordered_is a x y e = rw e refl

type_stays : (a : nodes.Node) (l : List nodes.Node) → nodes.parts a ≡ l → rules.attribute_type (rules.in_order a) ≡ rules.attribute_type a
type_stays a [] e = ap (λ (n : nodes.Node). rules.attribute_type n) (unordered a [] e none)
type_stays a (x ∷ []) e = ap (λ (n : nodes.Node). rules.attribute_type n) (unordered a (x ∷ []) e one)
type_stays a (x ∷ y ∷ []) e = ap (λ (n : nodes.Node). rules.attribute_type n) (ordered_is a x y e) ∙ sym (type_is a x y e)
type_stays a (x ∷ y ∷ z ∷ l) e = ap (λ (n : nodes.Node). rules.attribute_type n) (unordered a (x ∷ y ∷ z ∷ l) e three)

pub same_stays : (a b : nodes.Node) → rules.same_attribute (rules.in_order a) b ≡ rules.same_attribute a b
same_stays a b = ap (λ (k : ℕ). k == rules.attribute_type b) (type_stays a (nodes.parts a) refl)
