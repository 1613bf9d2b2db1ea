-- An entry of a refresh whose attributes stand in the order of their types says them as they stand.
use Rattle.std.proofs.Common.{◌≡◌, ℕ, Bool, true, false, not, ◌&&◌, ◌==◌, nat_lt, inl, inr, List, [], ◌∷◌, ◌++◌, map, refl, sym, ap, ap₂}
use Rattle.std.proofs.Common.{subst, ◌∙◌, arith}
use Rattle.std.proofs.lemmas.Bool.{eqb-true, lt-ltb, ltb-true}
use Rattle.std.proofs.lemmas.Simd.{map-map}
use Rattle.std.specs.List.{list_all}
use Rattle.std.specs.declared.option.Option.{Option}
use Rattle.std.specs.declared.option.Option.TheVariants.{None, Some}
use Rattle.x5_model.specs.Attributes.{is_ordered, kind_below, value_below}
use Rattle.x5_model.specs.Entries.{Stored, Named}
use Rattle.x5_model.specs.Values.{Name}
use Rattle.x5_model.specs.Words.{ascending, distinct, in_option, is_empty, last_of, sorted}
use Rattle.x5_model.proofs.Ascending.{sorted_itself}
use Rattle.x5_model.proofs.Lists.{and_true, both_true, true_or_false}
use Rattle.x5_model_messages.specs.Shadows.{entry_in, stored_in}
use Rattle.x5_model_messages.specs.Terms.{name_of, node_of}
use Rattle.x5_model_shadowed.proofs.Ordered.{once}
use Rattle.x5_model_typed.specs.Leaves.{where_so}
use Rattle.x5_model_typed.specs.Nodes.{Node, Flag, parts, row}
use Rattle.x5_model_typed.specs.Rules.{attribute_below, attribute_type, entry_rule, in_order, is_stored, is_true, same_attribute}
use Rattle.x5_model_typed.proofs.Laws.{list_row}
use Rattle.x5_model_typed_laws.proofs.Leaves.{let_through, so}
use Rattle.x5_model_typed_laws.proofs.Settling.{type_kept}
use Rattle.x5_direct.specs.Kept.{kept_in}
use Rattle.x5_direct.proofs.KeptValues.{all_more, ascending_mapped, ascending_more}

-- ---- numbers

less_chain : (a b c : ℕ) → nat_lt a b ≡ true → nat_lt b c ≡ true → nat_lt a c ≡ true
less_chain a b c p q = lt-ltb a c (omega (arith, ltb-true a b p, ltb-true b c q))

never_less : (a : ℕ) → nat_lt a a ≡ true → ⊥
never_less a h = absurd (omega (arith, ltb-true a a h))

less_apart : (a b : ℕ) → nat_lt a b ≡ true → (b == a) ≡ false
less_apart a b h =
    elim (true_or_false (b == a)) [
      | inl e ↦ absurd (omega (arith, eqb-true b a e, ltb-true a b h))
      | inr e ↦ e
    ]

-- ---- attributes

abbrev kept : Node → Stored
kept n = stored_in (in_order n)

-- what each of the nodes says
pub record AreKept (as' : List Stored) (ns : List Node) : Type 0 where
  pub stored : list_all is_stored ns ≡ true
  pub said : as' ≡ map kept ns

pub all_kept : (as' : List Stored) (ns : List Node) → map (λ a. Some a) as' ≡ map kept_in ns → AreKept as' ns
all_kept [] [] e = record { stored = refl; said = refl }
all_kept [] (n ∷ ns) e = absurd (cc e)
all_kept (a ∷ as') [] e = absurd (cc e)
all_kept (a ∷ as') (n ∷ ns) e =
    let first : kept_in n ≡ Some a = cc e in
    let rest : map (λ (x : Stored). Some x) as' ≡ map kept_in ns = cc e in
    let w = so (is_stored n) (kept n) a first in
    let others = all_kept as' ns rest in
    record {
      stored = and_true (is_stored n) (list_all is_stored ns) w.0 others.stored;
      said = ap₂ (λ (x : Stored) (xs : List Stored). x ∷ xs) (sym w.1) others.said;
    }

kind_by : (n : Node) (l : List Node) → parts n ≡ l → (stored_in n).kind ≡ attribute_type n
kind_by n [] e = rw e refl
kind_by n (a ∷ []) e = rw e refl
kind_by n (a ∷ b ∷ []) e = rw e refl
kind_by n (a ∷ b ∷ c ∷ l) e = rw e refl

kind_is : (n : Node) → (kept n).kind ≡ attribute_type n
kind_is n = kind_by (in_order n) (parts (in_order n)) refl ∙ type_kept n

chain : (x y z : Node) → attribute_below x y ≡ true → attribute_below y z ≡ true → attribute_below x z ≡ true
chain x y z p q = less_chain (attribute_type x) (attribute_type y) (attribute_type z) p q

attributes_once : (ns : List Node) → ascending attribute_below ns ≡ true → distinct same_attribute ns ≡ true
attributes_once ns up =
    once attribute_below same_attribute chain (λ x y h. less_apart (attribute_type x) (attribute_type y) h) ns up

nodes_ascend : (as' : List Stored) (ns : List Node) → as' ≡ map kept ns → ascending kind_below as' ≡ true
    → ascending attribute_below ns ≡ true
nodes_ascend as' ns e up =
    sym (ascending_mapped kept attribute_below kind_below (λ x y. ap₂ nat_lt (kind_is x) (kind_is y)) ns)
    ∙ subst (λ (l : List Stored). ascending kind_below l ≡ true) e up

kept_ascend : (ns : List Node) → ascending attribute_below ns ≡ true → ascending attribute_below (map in_order ns) ≡ true
kept_ascend ns up =
    ascending_mapped in_order attribute_below attribute_below (λ x y. ap₂ nat_lt (type_kept x) (type_kept y)) ns ∙ up

-- ---- entries

abbrev is_kept : Stored → Bool
is_kept a = not (is_empty a.values) && ascending value_below a.values

-- one attribute more that stands behind the last
pub ordered_more : (as' : List Stored) (a : Stored) → is_ordered (record { attributes = as' }) ≡ true → is_kept a ≡ true
    → in_option true (λ last. kind_below last a) (last_of as') ≡ true
    → is_ordered (record { attributes = as' ++ (a ∷ []) }) ≡ true
ordered_more as' a h k e =
    let w = both_true (ascending kind_below as') (list_all is_kept as') h in
    and_true (ascending kind_below (as' ++ (a ∷ []))) (list_all is_kept (as' ++ (a ∷ [])))
    (ascending_more kind_below as' a w.0 e) (all_more is_kept as' a w.1 k)

abbrev pub entry_of : Node → List Node → Node
entry_of name ns = node_of (name ∷ Flag true ∷ node_of ns ∷ [])

abbrev passes : List Node → Bool
passes ns = is_true (Flag true) && list_all is_stored ns && distinct same_attribute ns

types_ascend : (as' : List Stored) → is_ordered (record { attributes = as' }) ≡ true → ascending kind_below as' ≡ true
types_ascend as' h =
    (both_true (ascending kind_below as')
    (list_all (λ (a : Stored). not (is_empty a.values) && ascending value_below a.values) as') h).0

pub entry_settles : (name : Node) (as' : List Stored) (ns : List Node) → map (λ a. Some a) as' ≡ map kept_in ns
    → is_ordered (record { attributes = as' }) ≡ true
    → entry_rule (entry_of name ns) ≡ Some (entry_of name (map in_order ns))
entry_settles name as' ns e h =
    let k = all_kept as' ns e in
    let rising = nodes_ascend as' ns k.said (types_ascend as' h) in
    let same = sorted_itself attribute_below chain (λ x j. never_less (attribute_type x) j) (map in_order ns) (kept_ascend ns rising) in
    let pass = and_true (true && list_all is_stored ns) (distinct same_attribute ns) k.stored (attributes_once ns rising) in
    ap (λ (l : List Node). where_so (passes l) (entry_of name (sorted attribute_below (map in_order l)))) (list_row ns)
    ∙ ap (λ (l : List Node). where_so (passes ns) (entry_of name l)) same
    ∙ let_through (passes ns) (entry_of name (map in_order ns)) pass

pub entry_said : (name : Node) (as' : List Stored) (ns : List Node) → map (λ a. Some a) as' ≡ map kept_in ns
    → entry_in (entry_of name (map in_order ns)) ≡ record { name = name_of name; entry = record { attributes = as' } }
entry_said name as' ns e =
    let k = all_kept as' ns e in
    ap (λ (l : List Node). record { name = name_of name; entry = record { attributes = map stored_in l } })
    (list_row (map in_order ns))
    ∙ ap (λ (l : List Stored). record { name = name_of name; entry = record { attributes = l } })
    (map-map stored_in in_order ns ∙ sym k.said)
