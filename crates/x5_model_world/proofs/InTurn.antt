-- Readings in turn may be taken in parts: what the first ones come to is a reading of its own, behind which the others
-- follow.
use Rattle.std.proofs.Common.{◌≡◌, refl, Ok, Err}
use Rattle.x5_model_world.specs.Reading.{Read, ◌>>=◌}

pub in_turn : {A B C : Type 0} (m : Read A) (f : A → Read B) (k : B → Read C)
    → (m >>= λ a. f a >>= k) ≡ ((m >>= f) >>= k)
in_turn (Ok a) f k = refl
in_turn (Err fault) f k = refl

pub two_in_turn : {A B C D : Type 0} (m : Read A) (f : A → Read B) (g : B → Read C) (k : C → Read D)
    → (m >>= λ a. f a >>= λ b. g b >>= k) ≡ ((m >>= λ a. f a >>= g) >>= k)
two_in_turn (Ok a) f g k = in_turn (f a) g k
two_in_turn (Err fault) f g k = refl

pub three_in_turn : {A B C D E : Type 0} (m : Read A) (f : A → Read B) (g : B → Read C) (h : C → Read D)
    (k : D → Read E)
    → (m >>= λ a. f a >>= λ b. g b >>= λ c. h c >>= k) ≡ ((m >>= λ a. f a >>= λ b. g b >>= h) >>= k)
three_in_turn (Ok a) f g h k = two_in_turn (f a) g h k
three_in_turn (Err fault) f g h k = refl
