-- Words on lists under a map.
use Rattle.std.proofs.Common.{◌≡◌, not, ◌&&◌, ◌||◌, List, [], ◌∷◌, map, refl, ap, ap₂}
use Rattle.x5_model.specs.Words.{has, distinct}
use Rattle.x5_model.specs.Values.{TypeRef, Value}
use Rattle.x5_model.specs.Assertions.{offered, normal_for}
use Rattle.x5_model.specs.Statics.{same_offered}
use Rattle.x5_ops.specs.RefusalView.{same_normal}

module _ {A : Type 0} (view : A → Value) (type : TypeRef) where
  has_offered : (vs : List A) (v : A) → has same_offered (map (λ w. offered type (view w)) vs) (offered type (view v)) ≡ has same_normal (map (λ w. normal_for type (view w)) vs) (normal_for type (view v))
  has_offered [] v = refl
  has_offered (w ∷ ws) v = ap (λ b. same_normal (normal_for type (view w)) (normal_for type (view v)) || b) (has_offered ws v)

  -- offered values are apart where their normal forms are
  pub apart_by_normals : (vs : List A) → distinct same_offered (map (λ w. offered type (view w)) vs) ≡ distinct same_normal (map (λ w. normal_for type (view w)) vs)
  apart_by_normals [] = refl
  apart_by_normals (v ∷ vs) = ap₂ (λ a b. not a && b) (has_offered vs v) (apart_by_normals vs)
