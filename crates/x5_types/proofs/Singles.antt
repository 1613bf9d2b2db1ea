-- Octets of which each is the last one of a number are the numbers themselves (X.690, 8.19.2).
use Rattle.std.proofs.Common.{◌≡◌, ℕ, ◌+◌, ◌*◌, ◌<◌, ◌==◌, Bool, true, false, ◌&&◌, nat_lt, List, [], ◌∷◌, refl, ap}
use Rattle.std.proofs.Common.{arith}
use Rattle.std.specs.List.{list_all}
use Rattle.std.specs.declared.option.Option.TheVariants.{Some}
use Rattle.std.proofs.lemmas.Bool.{ltb-true, ne_eqb}
use Rattle.x5_model.specs.Normal.{is_oid}
use Rattle.x5_model_typed.specs.Leaves as leaves

abbrev is_single : ℕ → Bool
is_single o = nat_lt o 128

both_true : (p q : Bool) → (p && q) ≡ true → (p ≡ true) × (q ≡ true)
both_true true true e = (refl, refl)
both_true true false e = cc
both_true false q e = cc

is_other : (o : ℕ) → o < 128 → (o == 128) ≡ false
is_other o less = ne_eqb o 128 (λ same. omega (arith, same, less))

singles_read : (os : List ℕ) → list_all is_single os ≡ true → leaves.subidentifiers true 0 os ≡ Some os
singles_read [] e = refl
singles_read (o ∷ os) e =
    let both = both_true (is_single o) (list_all is_single os) e in
    let same : 0 * 128 + o ≡ o = omega arith in
    rw (is_other o (ltb-true o 128 both.0), both.0, singles_read os both.1)
    (ap (λ (n : ℕ). leaves.cons_to (Some os) n) same)

-- So their arcs are the object identifier.
pub singles_oid : (os : List ℕ) → list_all is_single os ≡ true
    → leaves.oid_of os ≡ leaves.where_so (is_oid (leaves.arcs_of os)) (leaves.arcs_of os)
singles_oid os e = rw (singles_read os e) refl
