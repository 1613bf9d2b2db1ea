-- The last RDN of a name by its place.
use Rattle.std.proofs.Common.{◌≡◌, ◌-◌, [], ◌∷◌, length, slice_get, refl, arith}
use Rattle.std.specs.Prelude.{Some, None}
use Rattle.x5_model.specs.Values.{Name, Rdn, last_rdn}

pub last_by_place : (n : Name) (r : Rdn) → slice_get n (length n - 1) ≡ Some r → last_rdn n ≡ r
last_by_place [] r e = cc
last_by_place (x ∷ []) r e = cc
last_by_place (x ∷ y ∷ more) r e = last_by_place (y ∷ more) r (grind (arith, e))

pub none_by_place : (n : Name) → slice_get n (length n - 1) ≡ None → last_rdn n ≡ []
none_by_place [] e = refl
none_by_place (x ∷ []) e = cc
none_by_place (x ∷ y ∷ more) e = none_by_place (y ∷ more) (grind (arith, e))
