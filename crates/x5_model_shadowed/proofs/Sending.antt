-- An entry that can be sent is within the limits, attribute by attribute and value by value.
use Rattle.std.proofs.Common.{◌≡◌, ℕ, Bool, true, false, if◌then◌else◌, List, refl, sym, ap}
use Rattle.std.specs.Cmp.Lexicographic.{bytes_decides}
use Rattle.std.specs.List.{list_all}
use Rattle.std.specs.declared.option.Option.{Option}
use Rattle.std.specs.declared.option.Option.TheVariants.{None, Some}
use Rattle.std.specs.declared.result.Result.TheVariants.{Err}
use Rattle.x5_model.specs.Entries.{Stored}
use Rattle.x5_model.specs.Normal.{WrongSyntax, is_of_kind, normal_form, value_over, within}
use Rattle.x5_model.specs.Types.{is_known, kind_of}
use Rattle.x5_model.specs.Values.{StoredValue}
use Rattle.x5_model.proofs.Lists.{both_true, of_all}
use Rattle.x5_model_tree.specs.Described.{is_normal, is_stored_attribute, is_stored_value}
use Rattle.x5_model_limits.specs.Holding.{BoundedStored}
use Rattle.x5_model_refreshed.specs.Steps.{Add, Remove, Modify, Rename}
use Rattle.x5_model_fitting.specs.Terms.{ValueWithin}
use Rattle.x5_model_shadowed.specs.Sending.{EntryIsWithin, StepIsWithin}
use Rattle.x5_model_shadowed.specs.Within.{StoredValueWithin, StoredWithin}

-- what has a normal form is of the kind, and has that one
within_is : (o : Option ℕ) (f n : List ℕ) → is_normal (within o f) n ≡ true → f ≡ n
within_is None f n h = (bytes_decides f n).0 h
within_is (Some most) f n h = absurd (cc h)

normal_is : (b : Bool) (o : Option ℕ) (f n : List ℕ)
    → is_normal (if b then within o f else Err WrongSyntax) n ≡ true → (b ≡ true) × (f ≡ n)
normal_is true o f n h = (refl, within_is o f n h)
normal_is false o f n h = absurd (cc h)

value_is : (k : ℕ) (v : StoredValue) → ValueWithin v.value → is_stored_value k v ≡ true → StoredValueWithin k v
value_is k v within h =
    let w = normal_is (is_of_kind (kind_of k) v.value) (value_over v.value) (normal_form (kind_of k) v.value) v.normal h in
    record {
      value = within;
      is = w.0;
      normal = ap (λ (n : List ℕ). record { value = v.value; normal = n }) (sym w.1);
    }

stored_is : (a : Stored) → BoundedStored a → is_stored_attribute a ≡ true → StoredWithin a
stored_is a b h =
    let w = both_true (is_known a.kind) (list_all (is_stored_value a.kind) a.values) h in
    record {
      type = b.type;
      some = b.some;
      values = λ v i. value_is a.kind v (b.values v i) (of_all (is_stored_value a.kind) v a.values w.1 i);
    }

pub entry_is_within : EntryIsWithin
entry_is_within e h = record {
  name = h.bounded.name;
  attributes = λ a i. stored_is a (h.bounded.attributes a i) (of_all is_stored_attribute a e.entry.attributes h.kinds i);
  ordered = h.ordered;
}

pub step_is_within : StepIsWithin
step_is_within (Add e) h = entry_is_within e h
step_is_within (Remove name) h = h
step_is_within (Modify e) h = entry_is_within e h
step_is_within (Rename name e) h = (h.0, entry_is_within e h.1)
