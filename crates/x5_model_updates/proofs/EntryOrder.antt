-- Entries stay in order: their attributes by type, and the values of each by their normal forms (X.501, section 8).
use Rattle.std.proofs.Common.{◌≡◌, ℕ, Bool, true, false, not, ◌&&◌, ◌||◌, ◌==◌, nat_lt, ◌⊎◌, inl, inr, List, [], ◌∷◌, refl, sym, ap, subst, ◌∙◌, arith, Option, Some, None, rules}
use Rattle.std.specs.Cmp.Rules.{comparing}
use Rattle.std.specs.Cmp.Lexicographic.{nat_list_cmp_total, slice_cmp}
use Rattle.std.specs.List.{filter, filter_map, list_all}
use Rattle.std.specs.declared.cmp.Ordering.{Ordering}
use Rattle.std.specs.declared.cmp.Ordering.TheVariants.{Less, Equal, Greater}
use Rattle.std.specs.Ordering.{is_lt, ordering_reverse, eq_by_cmp, nat_cmp}
use Rattle.x5_model.specs.Words.{has, distinct, ascending, insert_sorted, is_empty, in_option, same_octets, octets_below}
use Rattle.x5_model.specs.Members.{In}
use Rattle.x5_model.specs.Values.{Value, StoredValue, Offered}
use Rattle.x5_model.specs.Entries.{Stored, Entry}
use Rattle.x5_model.specs.Attributes.{value_below, kind_below, is_ordered, attribute_at, values_at, has_value, entry_with, stored_value, stored_values}
use Rattle.x5_model.specs.Statics.{same_offered}
use Rattle.x5_model.proofs.Lists.{both_true, and_true, not_true, in_first, of_all, all_in, of_filter, of_find, none_of}
use Rattle.x5_model.proofs.Ascending.{AllApart, of_insert, filter_ascending, insert_ascending, sorted_ascending}

-- ---- types

kind_chain : (x y z : Stored) → kind_below x y ≡ true → kind_below y z ≡ true → kind_below x z ≡ true
kind_chain x y z p q = grind arith

kinds_apart : (a b : ℕ) → (b == a) ≡ false → (nat_lt a b ≡ true) ⊎ (nat_lt b a ≡ true)
kinds_apart a b e = by (nat_lt a b) (nat_lt b a) refl refl
  where
    by : (p q : Bool) → nat_lt a b ≡ p → nat_lt b a ≡ q → (nat_lt a b ≡ true) ⊎ (nat_lt b a ≡ true)
    by true q f g = inl f
    by false true f g = inr g
    by false false f g = grind arith

-- ---- values

is_less : (o : Ordering) → is_lt o ≡ true → o ≡ Less
is_less Less e = refl
is_less Equal e = cc
is_less Greater e = cc

pub value_chain : (x y z : StoredValue) → value_below x y ≡ true → value_below y z ≡ true → value_below x z ≡ true
value_chain x y z p q = ap is_lt (nat_list_cmp_total.trans x.normal y.normal z.normal (is_less _ p) (is_less _ q))

octets_ties : (x y : List ℕ) → same_octets x y ≡ eq_by_cmp (slice_cmp nat_cmp) x y
octets_ties = search (comparing, rules)

pub octets_apart : (x y : List ℕ) → same_octets y x ≡ false → (octets_below x y ≡ true) ⊎ (octets_below y x ≡ true)
octets_apart x y e = by (slice_cmp nat_cmp y x) (slice_cmp nat_cmp x y) refl refl (nat_list_cmp_total.antisymm x y)
  where
    by : (r s : Ordering) → slice_cmp nat_cmp y x ≡ r → slice_cmp nat_cmp x y ≡ s → slice_cmp nat_cmp x y ≡ ordering_reverse (slice_cmp nat_cmp y x) → (octets_below x y ≡ true) ⊎ (octets_below y x ≡ true)
    by Less s f g h = inr (ap is_lt f)
    by Equal s f g h =
        let tied : same_octets y x ≡ true = octets_ties y x ∙ rw f refl in cc
    by Greater s f g h = inl (ap is_lt (h ∙ ap ordering_reverse f))

-- ---- entries

abbrev pub is_kept : Stored → Bool
is_kept a = not (is_empty a.values) && ascending value_below a.values

pub ordered_with : (kind : ℕ) (values : List StoredValue) (e : Entry) → is_ordered e ≡ true → ascending value_below values ≡ true → is_ordered (entry_with kind values e) ≡ true
ordered_with kind values e h v = by values v
  where
    is_other : Stored → Bool
    is_other = λ a. not (a.kind == kind)

    both : (ascending kind_below e.attributes ≡ true) × (list_all is_kept e.attributes ≡ true)
    both = both_true (ascending kind_below e.attributes) (list_all is_kept e.attributes) h

    others_ascend : ascending kind_below (filter (λ a. not (a.kind == kind)) e.attributes) ≡ true
    others_ascend = filter_ascending kind_below kind_chain (λ a. not (a.kind == kind)) e.attributes both.0

    other_kept : (a : Stored) → In a (filter (λ a. not (a.kind == kind)) e.attributes) → is_kept a ≡ true
    other_kept a i = of_all is_kept a e.attributes both.1 (of_filter (λ a. not (a.kind == kind)) a e.attributes i).0

    by : (values : List StoredValue) → ascending value_below values ≡ true → is_ordered (entry_with kind values e) ≡ true
    by [] v = and_true _ _ others_ascend (all_in is_kept (filter (λ a. not (a.kind == kind)) e.attributes) other_kept)
    by (w ∷ ws) v =
        let new : Stored = record { kind = kind; values = w ∷ ws } in
        and_true _ _
        (insert_ascending kind_below kind_chain new (filter (λ a. not (a.kind == kind)) e.attributes)
        (λ z i. kinds_apart kind z.kind (not_true (z.kind == kind) (of_filter (λ a. not (a.kind == kind)) z e.attributes i).1)) others_ascend)
        (all_in is_kept (insert_sorted kind_below new (filter (λ a. not (a.kind == kind)) e.attributes))
        (λ z i. elim (of_insert kind_below z new (filter (λ a. not (a.kind == kind)) e.attributes) i) [
          | inl p ↦ subst (λ (s : Stored). is_kept s ≡ true) (sym p) v
          | inr j ↦ other_kept z j
        ]))

in_found : (o : Option Stored) → ((a : Stored) → o ≡ Some a → ascending value_below a.values ≡ true) → ascending value_below (in_option [] (λ a. a.values) o) ≡ true
in_found None f = refl
in_found (Some a) f = f a refl

-- the values of a type are in order
pub values_ordered : (kind : ℕ) (e : Entry) → is_ordered e ≡ true → ascending value_below (values_at e kind) ≡ true
values_ordered kind e h =
    in_found (attribute_at e kind) (λ a p.
    (both_true (not (is_empty a.values)) (ascending value_below a.values)
    (of_all is_kept a e.attributes (both_true (ascending kind_below e.attributes) (list_all is_kept e.attributes) h).1
    (of_find (λ a. a.kind == kind) a e.attributes p).0)).1)

-- and stay so with one more that isn't there, and without some
pub put_ordered : (kind : ℕ) (v : StoredValue) (e : Entry) → is_ordered e ≡ true → has_value e kind v.normal ≡ false → ascending value_below (insert_sorted value_below v (values_at e kind)) ≡ true
put_ordered kind v e h absent =
    insert_ascending value_below value_chain v (values_at e kind)
    (λ z i. octets_apart v.normal z.normal (none_of (λ w. same_octets w.normal v.normal) z (values_at e kind) absent i))
    (values_ordered kind e h)

pub drop_ordered : (kind : ℕ) (normal : List ℕ) (e : Entry) → is_ordered e ≡ true → ascending value_below (filter (λ v. not (same_octets v.normal normal)) (values_at e kind)) ≡ true
drop_ordered kind normal e h = filter_ascending value_below value_chain (λ v. not (same_octets v.normal normal)) (values_at e kind) (values_ordered kind e h)

-- ---- offered values

neither_true : (a b : Bool) → (a || b) ≡ false → (a ≡ false) × (b ≡ false)
neither_true true b e = cc
neither_true false b e = (refl, e)

abbrev AreApart : StoredValue → StoredValue → Type 0
AreApart w z = (value_below w z ≡ true) ⊎ (value_below z w ≡ true)

front : (w : StoredValue) (v : Value) (n : Option (List ℕ)) (os : List Offered)
    → (same_offered (record { value = v; normal = n }) (record { value = w.value; normal = Some w.normal }) ≡ false)
    → ((z : StoredValue) → In z (filter_map stored_value os) → AreApart w z)
    → (z : StoredValue) → In z (filter_map stored_value (record { value = v; normal = n } ∷ os)) → AreApart w z
front w v None os e rest z i = rest z i
front w v (Some m) os e rest z i =
    elim (in_first z (record { value = v; normal = m }) (filter_map stored_value os) i) [
      | inl p ↦ subst (λ (s : StoredValue). AreApart w s) (sym p) (octets_apart w.normal m e)
      | inr j ↦ rest z j
    ]

all_apart : (w : StoredValue) (os : List Offered) → has same_offered os (record { value = w.value; normal = Some w.normal }) ≡ false → (z : StoredValue) → In z (filter_map stored_value os) → AreApart w z
all_apart w [] e z i = elim i [ ]
all_apart w (o ∷ os) e z i =
    let h = neither_true (same_offered o (record { value = w.value; normal = Some w.normal })) (has same_offered os (record { value = w.value; normal = Some w.normal })) e in
    front w o.value o.normal os h.0 (all_apart w os h.1) z i

one : (v : Value) (n : Option (List ℕ)) (os : List Offered) → has same_offered os (record { value = v; normal = n }) ≡ false → AllApart value_below (filter_map stored_value os) → AllApart value_below (filter_map stored_value (record { value = v; normal = n } ∷ os))
one v None os e rest = rest
one v (Some m) os e rest = (all_apart (record { value = v; normal = m }) os e, rest)

stored_apart : (os : List Offered) → distinct same_offered os ≡ true → AllApart value_below (filter_map stored_value os)
stored_apart [] h = tt
stored_apart (o ∷ os) h =
    let w = both_true (not (has same_offered os o)) (distinct same_offered os) h in
    one o.value o.normal os (not_true (has same_offered os o) w.0) (stored_apart os w.1)

pub stored_ascending : (os : List Offered) → distinct same_offered os ≡ true → ascending value_below (stored_values os) ≡ true
stored_ascending os h = sorted_ascending value_below value_chain (filter_map stored_value os) (stored_apart os h)
