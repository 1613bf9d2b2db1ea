-- The last RDN of a name is at its last place.
use Rattle.std.proofs.Common.{◌≡◌, ◌-◌, suc, [], ◌∷◌, length, refl, ap, ◌∙◌, arith, Some, None}
use Rattle.std.specs.Prelude.{slice_get}
use Rattle.x5_model.specs.Values.{Name, Rdn, last_rdn}

pub last_some : (n : Name) (r : Rdn) → Some r ≡ slice_get n (length n - 1) → r ≡ last_rdn n
last_some [] r e = cc
last_some (x ∷ []) r e = inside e
  where
    inside : Some r ≡ Some x → r ≡ x
    inside q = cc
last_some (x ∷ y ∷ rest) r e =
    let k : length (x ∷ y ∷ rest) - 1 ≡ suc (length (y ∷ rest) - 1) = omega arith in
    last_some (y ∷ rest) r (e ∙ ap (slice_get (x ∷ y ∷ rest)) k)

pub last_none : (n : Name) → None ≡ slice_get n (length n - 1) → [] ≡ last_rdn n
last_none [] e = refl
last_none (x ∷ []) e = absurd (never e)
  where
    never : None ≡ Some x → ⊥
    never q = cc
last_none (x ∷ y ∷ rest) e =
    let k : length (x ∷ y ∷ rest) - 1 ≡ suc (length (y ∷ rest) - 1) = omega arith in
    last_none (y ∷ rest) (e ∙ ap (slice_get (x ∷ y ∷ rest)) k)
