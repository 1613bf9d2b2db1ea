-- What there is where a test is passed, and what stands second.
use Rattle.std.proofs.Common.{◌≡◌, Bool, true, false, List, [], ◌∷◌, get_or, refl}
use Rattle.std.specs.declared.option.Option.{Option}
use Rattle.std.specs.declared.option.Option.TheVariants.{None, Some}
use Rattle.x5_model_typed.specs.Leaves.{where_so}

pub none_there : {X : Type 0} (b : Bool) (x : X) → b ≡ true → None ≡ where_so b x → ⊥
none_there true x h e = cc
none_there false x h e = cc

pub one_there : {X : Type 0} (b : Bool) (x y : X) → Some y ≡ where_so b x → y ≡ x
one_there true x y e = cc
one_there false x y e = absurd (cc e)

pub middle : {X : Type 0} (xs : List X) (d : X) → get_or xs 1 d ≡ get_or xs 1 (get_or xs 1 d)
middle [] d = refl
middle (x ∷ []) d = refl
middle (x ∷ y ∷ xs) d = refl
