-- Items of a trace by their four parts.
use Rattle.std.proofs.Common.{◌≡◌, Bool, false, ◌&&◌, List, [], ◌∷◌, refl, ap, sym, ◌∙◌}
use Rattle.std.proofs.Common.{length, get_or, arith}
use Rattle.x5_model.specs.Keys.{Key, same_key}
use Rattle.x5_model.specs.Normal.{stored, written_key}
use Rattle.x5_model.specs.Values.{Name, key_of}
use Rattle.x5_model_typed.specs.Nodes as nodes
use Rattle.x5_model_typed.specs.Nodes.{parts}
use Rattle.x5_model_typed.specs.Rules.{name_in, same_item}
use Rattle.x5_rules.specs.Items.{target_in, IsNotFour, none, one, two, three, five}
use Rattle.x5_rules.proofs.Keys.{key_stored}

target_is : (m a b c d : nodes.Node) → parts m ≡ a ∷ b ∷ c ∷ d ∷ [] → target_in m ≡ stored (name_in b)
target_is m a b c d e = rw e refl

key_is : (m a b c d : nodes.Node) → parts m ≡ a ∷ b ∷ c ∷ d ∷ [] → (t : Name) → t ≡ target_in m → written_key (name_in b) ≡ key_of t
key_is m a b c d e t is = sym (ap key_of (is ∙ target_is m a b c d e) ∙ key_stored (name_in b))

same_is : (m n a b c d a' b' c' d' : nodes.Node) → parts m ≡ a ∷ b ∷ c ∷ d ∷ [] → parts n ≡ a' ∷ b' ∷ c' ∷ d' ∷ []
    → same_item m n ≡ (nodes.same a a' && same_key (written_key (name_in b)) (written_key (name_in b')) && nodes.same c c' && nodes.same d d')
same_is m n a b c d a' b' c' d' e f = rw (e, f) refl

pub same_by : (m n a b c d a' b' c' d' : nodes.Node) → parts m ≡ a ∷ b ∷ c ∷ d ∷ [] → parts n ≡ a' ∷ b' ∷ c' ∷ d' ∷ []
    → (t u : Name) → t ≡ target_in m → u ≡ target_in n
    → same_item m n ≡ (nodes.same a a' && same_key (key_of t) (key_of u) && nodes.same c c' && nodes.same d d')
same_by m n a b c d a' b' c' d' e f t u of-m of-n =
    same_is m n a b c d a' b' c' d' e f
    ∙ ap (λ (k : Key). nodes.same a a' && same_key k (written_key (name_in b')) && nodes.same c c' && nodes.same d d') (key_is m a b c d e t of-m)
    ∙ ap (λ (k : Key). nodes.same a a' && same_key (key_of t) k && nodes.same c c' && nodes.same d d') (key_is n a' b' c' d' f u of-n)

pub not_four : (l : List nodes.Node) → (length l ≡ 4 → ⊥) → IsNotFour l
not_four [] h = none
not_four (a ∷ []) h = one
not_four (a ∷ b ∷ []) h = two
not_four (a ∷ b ∷ c ∷ []) h = three
not_four (a ∷ b ∷ c ∷ d ∷ []) h = absurd (h refl)
not_four (a ∷ b ∷ c ∷ d ∷ e ∷ l) h = five

pub just_four : {X : Type 0} (l : List X) (x y z w : X) → length l ≡ 4 → get_or l 0 x ≡ x → get_or l 1 y ≡ y → get_or l 2 z ≡ z → get_or l 3 w ≡ w
    → l ≡ x ∷ y ∷ z ∷ w ∷ []
just_four [] x y z w n e f g h = absurd (omega (arith, n))
just_four (a ∷ []) x y z w n e f g h = absurd (omega (arith, n))
just_four (a ∷ b ∷ []) x y z w n e f g h = absurd (omega (arith, n))
just_four (a ∷ b ∷ c ∷ []) x y z w n e f g h = absurd (omega (arith, n))
just_four (a ∷ b ∷ c ∷ d ∷ []) x y z w n e f g h = cc
just_four (a ∷ b ∷ c ∷ d ∷ i ∷ l) x y z w n e f g h = absurd (omega (arith, n))
