-- Controls are kept without their second and third components.
use Rattle.std.proofs.Common.{◌≡◌, List, [], ◌∷◌, length, map, slice_set, refl, ap, ◌∙◌, arith, Vec, Global}
use Rattle.std.specs.declared.option.Option.TheVariants.{None, Some}
use Rattle.x5_model_typed.specs.Nodes as nodes
use Rattle.x5_model_typed.specs.Rules as rules
use Rattle.x5_types.specs.declared.node.Node.{Node, Vacant, Many}
use Rattle.x5_types.specs.NodeView.{node_view}
use Rattle.x5_types.proofs.Nodes.{parts_are, many_is}

kept : (n : nodes.Node) (l : List Node) → nodes.parts n ≡ map node_view l → length l ≡ 4
    → Some (nodes.Many (nodes.row (map node_view (slice_set (slice_set l 1 Vacant) 2 Vacant)))) ≡ rules.controls_rule n
kept n [] e four = absurd (omega (arith, four))
kept n (a ∷ []) e four = absurd (omega (arith, four))
kept n (a ∷ b ∷ []) e four = absurd (omega (arith, four))
kept n (a ∷ b ∷ c ∷ []) e four = absurd (omega (arith, four))
kept n (a ∷ b ∷ c ∷ d ∷ []) e four = rw e refl
kept n (a ∷ b ∷ c ∷ d ∷ f ∷ l) e four = absurd (omega (arith, four))

pub controls_are : (v w : Vec Node Global) → w.items ≡ slice_set (slice_set v.items 1 Vacant) 2 Vacant
    → length v.items ≡ 4 → Some (node_view (Many w)) ≡ rules.controls_rule (node_view (Many v))
controls_are v w e four = ap (λ (n : nodes.Node). Some n)
    (many_is w (slice_set (slice_set v.items 1 Vacant) 2 Vacant) e)
    ∙ kept (node_view (Many v)) v.items (parts_are v) four

none_kept : (n : nodes.Node) (l : List Node) → nodes.parts n ≡ map node_view l → (length l ≡ 4 → ⊥)
    → None ≡ rules.controls_rule n
none_kept n [] e other = rw e refl
none_kept n (a ∷ []) e other = rw e refl
none_kept n (a ∷ b ∷ []) e other = rw e refl
none_kept n (a ∷ b ∷ c ∷ []) e other = rw e refl
none_kept n (a ∷ b ∷ c ∷ d ∷ []) e other = absurd (other refl)
none_kept n (a ∷ b ∷ c ∷ d ∷ f ∷ l) e other = rw e refl

pub no_controls : (v : Vec Node Global) → (length v.items ≡ 4 → ⊥) → None ≡ rules.controls_rule (node_view (Many v))
no_controls v other = none_kept (node_view (Many v)) v.items (parts_are v) other
