-- Nodes of members are the same where the members are, one by one.
use Rattle.std.proofs.Common.{◌≡◌, ℕ, suc, ◌+◌, Bool, true, false, ◌&&◌, List, [], ◌∷◌, length, map, refl, ap, sym, ◌∙◌}
use Rattle.std.proofs.Common.{Vec, Global, arith, rules, vec_len}
use Rattle.std.specs.Cmp.Lexicographic.{pointwise}
use Rattle.x5_model_typed.specs.Nodes as nodes
use Rattle.x5_types.specs.declared.node.Node.{Node, Many}
use Rattle.x5_types.specs.NodeView.{node_view}
use Rattle.x5_types.proofs.Nodes.{many_of_items}

rows_same : (ms ns : List nodes.Node) → nodes.same_all (nodes.row ms) (nodes.row ns) ≡ pointwise nodes.same ms ns
rows_same [] [] = refl
rows_same [] (n ∷ ns) = refl
rows_same (m ∷ ms) [] = refl
rows_same (m ∷ ms) (n ∷ ns) = ap (λ (b : Bool). nodes.same m n && b) (rows_same ms ns)

pub many_same : (v w : Vec Node Global)
    → nodes.same (node_view (Many v)) (node_view (Many w)) ≡ pointwise nodes.same (map node_view v.items) (map node_view w.items)
many_same v w =
    sym (ap (λ (n : nodes.Node). nodes.same n (node_view (Many w))) (many_of_items v))
    ∙ sym (ap (λ (n : nodes.Node). nodes.same (nodes.Many (nodes.row (map node_view v.items))) n) (many_of_items w))
    ∙ rows_same (map node_view v.items) (map node_view w.items)

-- lists of different lengths aren't the same
and_false : (b c : Bool) → c ≡ false → (b && c) ≡ false
and_false true c e = e
and_false false c e = refl

one_more : {a b : ℕ} → a ≡ b → suc a ≡ suc b
one_more e = ap (λ (k : ℕ). suc k) e

pub uneven : (ms ns : List Node) → (length ms ≡ length ns → ⊥)
    → pointwise nodes.same (map node_view ms) (map node_view ns) ≡ false
uneven [] [] h = absurd (h refl)
uneven [] (n ∷ ns) h = refl
uneven (m ∷ ms) [] h = refl
uneven (m ∷ ms) (n ∷ ns) h =
    and_false (nodes.same (node_view m) (node_view n)) _ (uneven ms ns (λ e. h (one_more e)))

pub vec_lengths : (v w : Vec Node Global) → vec_len v ≡ vec_len w → length v.items ≡ length w.items
vec_lengths v w e = search (rules, e)

pub same_lengths : (v w : Vec Node Global) → length v.items ≡ length w.items → vec_len v ≡ vec_len w
same_lengths v w e = search (rules, e)

pub same_many : (m n : Node) (v w : Vec Node Global) → m ≡ Many v → n ≡ Many w
    → nodes.same (node_view m) (node_view n) ≡ pointwise nodes.same (map node_view v.items) (map node_view w.items)
same_many m n v w is-m is-n =
    ap (λ (k : Node). nodes.same (node_view k) (node_view n)) is-m
    ∙ ap (λ (k : Node). nodes.same (node_view (Many v)) (node_view k)) is-n
    ∙ many_same v w
