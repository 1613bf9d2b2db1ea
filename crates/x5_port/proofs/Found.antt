-- The file that is found under a name.
use Rattle.std.proofs.Common.{◌≡◌, Bool, true, false, List, [], ◌∷◌, map, Some, cond, refl}
use Rattle.std.specs.List.{find}
use Rattle.std.specs.Option.{option_map}

-- a search among what the elements show
pub find-map : {X Y : Type 0} (show : X → Y) (test : Y → Bool) (xs : List X) → option_map show (find (λ x. test (show x)) xs) ≡ find test (map show xs)
find-map show test [] = refl
find-map show test (x ∷ xs) =
    elim (test (show x)) as (λ b. option_map show (cond b (Some x) (find (λ y. test (show y)) xs)) ≡ cond b (Some (show x)) (find test (map show xs)))
    [ true ↦ refl | false ↦ find-map show test xs ]
