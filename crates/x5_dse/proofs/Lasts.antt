-- The last RDN of a name is the one before its end.
use Rattle.std.proofs.Common.{◌≡◌, ℕ, zero, suc, ◌+◌, ◌<◌, ◌-◌, [], ◌∷◌, length, get_or, refl, arith}
use Rattle.x5_model.specs.Values.{Rdn, Name, last_rdn}

pub last_at : (n : Name) (i : ℕ) (d : Rdn) → i + 1 ≡ length n → get_or n i d ≡ last_rdn n
last_at [] i d e = absurd (omega arith)
last_at (r ∷ []) zero d e = refl
last_at (r ∷ []) (suc i) d e = absurd (omega arith)
last_at (r ∷ s ∷ rest) zero d e = absurd (omega arith)
last_at (r ∷ s ∷ rest) (suc i) d e = last_at (s ∷ rest) i d (omega arith)

pub last_is : (n : Name) (d : Rdn) → 0 < length n → get_or n (length n - 1) d ≡ last_rdn n
last_is n d l = last_at n (length n - 1) d (omega arith)
