-- Of what isn't refused by its request alone no attribute repeats a type or a value.
use Rattle.std.proofs.Common.{◌≡◌, List, [], ◌∷◌, ◌++◌, refl, ap, None, Some}
use Rattle.std.specs.List.{flat_map}
use Rattle.x5_model.specs.Words.{first_of}
use Rattle.x5_model.specs.Values.{Name}
use Rattle.x5_model.specs.Requests.{Attribute, AddEntry}
use Rattle.x5_model.specs.Answers.{DirError}
use Rattle.x5_model.specs.Statics.{attribute_repeats, added_refusals, fault_of, name_refusals, value_refusals}

empty_of : (xs : List DirError) → first_of xs ≡ None → xs ≡ []
empty_of [] e = refl
empty_of (x ∷ xs) e = absurd (never e)
  where
    never : Some x ≡ None → ⊥
    never q = cc

both_empty : (xs ys : List DirError) → xs ++ ys ≡ [] → (xs ≡ []) × (ys ≡ [])
both_empty [] ys e = (refl, e)
both_empty (x ∷ xs) ys e = absurd (never e)
  where
    never : x ∷ (xs ++ ys) ≡ [] → ⊥
    never q = cc

pub none_repeats : (name : Name) (attributes : List Attribute) → fault_of (AddEntry name attributes) ≡ None
    → first_of (attribute_repeats [] attributes) ≡ None
none_repeats name attributes f =
    let a = name_refusals (AddEntry name attributes) in
    let b = flat_map value_refusals attributes in
    let c = attribute_repeats [] attributes in
    let d = added_refusals (AddEntry name attributes) in
    let w = both_empty ((a ++ b) ++ c) d (empty_of (((a ++ b) ++ c) ++ d) f) in
    ap (λ (l : List DirError). first_of l) (both_empty (a ++ b) c w.0).1
