-- Lists of two, and of another number.
use Rattle.std.proofs.Common.{◌≡◌, ◌<◌, ◌≤◌, List, [], ◌∷◌, length, get_or, refl}
use Rattle.std.proofs.Common.{arith}
use Rattle.x5_model_typed.specs.Nodes as nodes
use Rattle.x5_types.specs.NodeView.{IsNotTwo, none, one, three}

pub just_two : {X : Type 0} (l : List X) (x y : X) → 2 ≤ length l → length l < 3 → get_or l 0 x ≡ x → get_or l 1 y ≡ y
    → l ≡ x ∷ y ∷ []
just_two [] x y more few e f = absurd (omega arith)
just_two (a ∷ []) x y more few e f = absurd (omega arith)
just_two (a ∷ b ∷ []) x y more few e f = cc
just_two (a ∷ b ∷ c ∷ l) x y more few e f = absurd (omega arith)

pub not_two : (l : List nodes.Node) → (length l ≡ 2 → ⊥) → IsNotTwo l
not_two [] h = none
not_two (a ∷ []) h = one
not_two (a ∷ b ∷ []) h = absurd (h refl)
not_two (a ∷ b ∷ c ∷ l) h = three
