-- What the static refusals leave of an update: a name that isn't the root's, and attributes that repeat nothing.
use Rattle.std.proofs.Common.{◌≡◌, ◌<◌, Bool, false, nat_lt, List, [], ◌∷◌, length, refl, ap, arith}
use Rattle.std.proofs.Common.{None, ◌++◌}
use Rattle.std.specs.List.{flat_map}
use Rattle.x5_model.specs.Words.{first_of, is_empty}
use Rattle.x5_model.specs.Values.{Rdn, Name}
use Rattle.x5_model.specs.Requests.{Attribute, Body, AddEntry, ModifyDn}
use Rattle.x5_model.specs.Answers.{NoSuchObject, UpdateProblem}
use Rattle.x5_model.specs.Problems.{naming_violation}
use Rattle.x5_model.specs.Statics.{fault_of, static_refusals, name_refusals, value_refusals, given, repeat_refusals}
use Rattle.x5_model.specs.Statics.{added_refusals, attribute_repeats}
use Rattle.x5_model.proofs.Lists.{left_empty, right_empty, when_empty}

none_first : {A : Type 0} (xs : List A) → first_of xs ≡ None → xs ≡ []
none_first [] e = refl
none_first (x ∷ xs) e = cc

first_three : (body : Body) → fault_of body ≡ None
    → (name_refusals body ++ flat_map value_refusals (given body)) ++ repeat_refusals body ≡ []
first_three body e = left_empty ((name_refusals body ++ flat_map value_refusals (given body)) ++ repeat_refusals body)
    (added_refusals body) (none_first (static_refusals body) e)

no_name : (body : Body) → fault_of body ≡ None → name_refusals body ≡ []
no_name body e = left_empty (name_refusals body) (flat_map value_refusals (given body))
    (left_empty (name_refusals body ++ flat_map value_refusals (given body)) (repeat_refusals body) (first_three body e))

pub added_named : (name : Name) (attributes : List Attribute) → fault_of (AddEntry name attributes) ≡ None
    → 0 < length name
added_named name attributes e = by name (when_empty (nat_lt (length name) 2) (UpdateProblem naming_violation)
    (no_name (AddEntry name attributes) e))
  where
    by : (n : Name) → nat_lt (length n) 2 ≡ false → 0 < length n
    by [] q = cc
    by (r ∷ n) q = omega arith

pub added_apart : (name : Name) (attributes : List Attribute) → fault_of (AddEntry name attributes) ≡ None
    → first_of (attribute_repeats [] attributes) ≡ None
added_apart name attributes e = ap first_of (right_empty
    (name_refusals (AddEntry name attributes) ++ flat_map value_refusals (given (AddEntry name attributes)))
    (attribute_repeats [] attributes) (first_three (AddEntry name attributes) e))

pub moved_named : (name : Name) (rdn : Rdn) (drops : Bool) → fault_of (ModifyDn name rdn drops) ≡ None
    → 0 < length name
moved_named name rdn drops e = by name (when_empty (is_empty name) (NoSuchObject []) (no_name (ModifyDn name rdn drops) e))
  where
    by : (n : Name) → is_empty n ≡ false → 0 < length n
    by [] q = cc
    by (r ∷ n) q = omega arith
