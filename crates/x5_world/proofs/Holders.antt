-- What the agent of a place holds is at that place.
use Rattle.std.proofs.Common.{◌≡◌, ℕ, zero, suc, ◌<◌, List, [], ◌∷◌, length, map, get_or, slice_get, sym, ap, arith, Some}

pub at_place : {A B : Type 0} (f : A → B) (xs : List A) (i : ℕ) (x : A) → i < length xs → x ≡ get_or xs i x
    → slice_get (map f xs) i ≡ Some (f x)
at_place f [] i x h e = absurd (omega (arith, h))
at_place f (y ∷ ys) zero x h e = ap (λ z. Some (f z)) (sym e)
at_place f (y ∷ ys) (suc i) x h e = at_place f ys i x (omega (arith, h)) e

pub got_place : {A : Type 0} (xs : List A) (i : ℕ) (x : A) → i < length xs → x ≡ get_or xs i x → slice_get xs i ≡ Some x
got_place [] i x h e = absurd (omega (arith, h))
got_place {A} (y ∷ ys) zero x h e = ap (λ (z : A). Some z) (sym e)
got_place (y ∷ ys) (suc i) x h e = got_place ys i x (omega (arith, h)) e
