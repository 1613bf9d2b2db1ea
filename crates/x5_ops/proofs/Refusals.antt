-- What follows where there is no static refusal, and the first of refusals that follow one another.
use Rattle.std.proofs.Common.{◌≡◌, ◌-◌, Bool, true, false, not, ◌&&◌, ◌||◌, List, [], ◌∷◌, ◌++◌, length, slice_get, refl, ap, Some, None, is_some, arith}
use Rattle.std.specs.List.{list_all, flat_map}
use Rattle.x5_model.specs.Words.{has, is_empty, first_of, when}
use Rattle.x5_model.specs.Values.{TypeRef, Rdn, Name, last_rdn}
use Rattle.x5_model.specs.Requests.{Attribute, Change}
use Rattle.x5_model.specs.Statics.{has_equal_values, attribute_repeats, change_repeats, repeated, same_type}
use Rattle.x5_model.proofs.Lists.{and_true}

neither_true : (a b : Bool) → (a || b) ≡ false → (a ≡ false) × (b ≡ false)
neither_true true b e = cc
neither_true false b e = (refl, e)

pub first_none : {X : Type 0} (xs ys : List X) → first_of xs ≡ None → first_of (xs ++ ys) ≡ first_of ys
first_none [] ys e = refl
first_none (x ∷ xs) ys e = cc

pub first_some : {X : Type 0} (x : X) (xs ys : List X) → first_of xs ≡ Some x → first_of (xs ++ ys) ≡ Some x
first_some x [] ys e = cc
first_some x (y ∷ xs) ys e = e

not_when : {X : Type 0} (b : Bool) (x : X) (ys : List X) → first_of (when b x ++ ys) ≡ None → (b ≡ false) × (first_of ys ≡ None)
not_when true x ys e = cc
not_when false x ys e = (refl, e)

apart_behind : (earlier : List TypeRef) (given : List Attribute) → first_of (attribute_repeats earlier given) ≡ None → list_all (λ a. not (has_equal_values a)) given ≡ true
apart_behind earlier [] e = refl
apart_behind earlier (a ∷ given) e =
    let w = not_when (has_equal_values a || has same_type earlier a.kind) (repeated a) (attribute_repeats (a.kind ∷ earlier) given) e in
    and_true (not (has_equal_values a)) (list_all (λ a. not (has_equal_values a)) given) (ap not (neither_true (has_equal_values a) (has same_type earlier a.kind) w.0).0) (apart_behind (a.kind ∷ earlier) given w.1)

-- attributes without repeats have no equal values
pub apart_without_repeats : (given : List Attribute) → first_of (attribute_repeats [] given) ≡ None → list_all (λ a. not (has_equal_values a)) given ≡ true
apart_without_repeats given e = apart_behind [] given e

-- the last RDN
pub last_by_place : (n : Name) (r : Rdn) → slice_get n (length n - 1) ≡ Some r → last_rdn n ≡ r
last_by_place [] r e = cc
last_by_place (x ∷ []) r e = cc
last_by_place (x ∷ y ∷ more) r e = last_by_place (y ∷ more) r (grind (arith, e))
