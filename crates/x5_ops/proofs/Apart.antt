-- Offered values of which no two are equal are kept in order.
use Rattle.std.proofs.Common.{◌≡◌, ℕ, Bool, true, false, not, ◌||◌, ◌⊎◌, inl, inr, List, [], ◌∷◌, refl, sym, subst, Option, Some, None}
use Rattle.std.specs.List.{filter_map}
use Rattle.x5_model.specs.Words.{has, distinct, ascending}
use Rattle.x5_model.specs.Members.{In}
use Rattle.x5_model.specs.Values.{Value, StoredValue, Offered}
use Rattle.x5_model.specs.Attributes.{value_below, stored_value, stored_values}
use Rattle.x5_model.specs.Statics.{same_offered}
use Rattle.x5_model.proofs.Lists.{both_true, not_true, in_first}
use Rattle.x5_model.proofs.Ascending.{AllApart, sorted_ascending}
use Rattle.x5_ops.proofs.EntryOrder.{octets_apart, value_chain}

neither_true : (a b : Bool) → (a || b) ≡ false → (a ≡ false) × (b ≡ false)
neither_true true b e = cc
neither_true false b e = (refl, e)

abbrev AreApart : StoredValue → StoredValue → Type 0
AreApart w z = (value_below w z ≡ true) ⊎ (value_below z w ≡ true)

front : (w : StoredValue) (v : Value) (n : Option (List ℕ)) (os : List Offered)
    → (same_offered (record { value = v; normal = n }) (record { value = w.value; normal = Some w.normal }) ≡ false)
    → ((z : StoredValue) → In z (filter_map stored_value os) → AreApart w z)
    → (z : StoredValue) → In z (filter_map stored_value (record { value = v; normal = n } ∷ os)) → AreApart w z
front w v None os e rest z i = rest z i
front w v (Some m) os e rest z i =
    elim (in_first z (record { value = v; normal = m }) (filter_map stored_value os) i) [
      | inl p ↦ subst (λ (s : StoredValue). AreApart w s) (sym p) (octets_apart w.normal m e)
      | inr j ↦ rest z j
    ]

all_apart : (w : StoredValue) (os : List Offered) → has same_offered os (record { value = w.value; normal = Some w.normal }) ≡ false → (z : StoredValue) → In z (filter_map stored_value os) → AreApart w z
all_apart w [] e z i = elim i [ ]
all_apart w (o ∷ os) e z i =
    let h = neither_true (same_offered o (record { value = w.value; normal = Some w.normal })) (has same_offered os (record { value = w.value; normal = Some w.normal })) e in
    front w o.value o.normal os h.0 (all_apart w os h.1) z i

one : (v : Value) (n : Option (List ℕ)) (os : List Offered) → has same_offered os (record { value = v; normal = n }) ≡ false → AllApart value_below (filter_map stored_value os) → AllApart value_below (filter_map stored_value (record { value = v; normal = n } ∷ os))
one v None os e rest = rest
one v (Some m) os e rest = (all_apart (record { value = v; normal = m }) os e, rest)

stored_apart : (os : List Offered) → distinct same_offered os ≡ true → AllApart value_below (filter_map stored_value os)
stored_apart [] h = tt
stored_apart (o ∷ os) h =
    let w = both_true (not (has same_offered os o)) (distinct same_offered os) h in
    one o.value o.normal os (not_true (has same_offered os o) w.0) (stored_apart os w.1)

pub stored_ascending : (os : List Offered) → distinct same_offered os ≡ true → ascending value_below (stored_values os) ≡ true
stored_ascending os h = sorted_ascending value_below value_chain (filter_map stored_value os) (stored_apart os h)
