-- The names that items are about, item by item, and those behind one.
use Rattle.std.proofs.Common.{◌≡◌, ℕ, ◌-◌, ◌<◌, List, length, map, take, drop, slice_index_or, refl, ap, sym, ◌∙◌, arith}
use Rattle.std.proofs.lemmas.List.{get_or-map, drop-map, take_all, length-drop, length-map}
use Rattle.x5_model.specs.Values.{Name}
use Rattle.x5_model_typed.specs.Nodes as nodes
use Rattle.x5_types.specs.declared.node.Node.{Node}
use Rattle.x5_types.specs.NodeView.{node_view}
use Rattle.x5_rules.specs.Items.{target_in}

pub target_at : (xs : List Node) (ys : List Name) (i : ℕ) (x : Node) (y : Name) → ys ≡ map target_in (map node_view xs)
    → i < length xs → x ≡ slice_index_or xs i x → y ≡ slice_index_or ys i y → y ≡ target_in (node_view x)
target_at xs ys i x y e within is-x is-y =
    is-y ∙ ap (λ (l : List Name). slice_index_or l i y) e
    ∙ get_or-map target_in (map node_view xs) i (node_view x) y (omega (arith, within, length-map xs node_view))
    ∙ ap target_in (get_or-map node_view xs i x (node_view x) within)
    ∙ ap (λ (n : Node). target_in (node_view n)) (sym is-x)

all_behind : {X : Type 0} (l : List X) (k : ℕ) → take (length l - k) (drop k l) ≡ drop k l
all_behind l k = take_all (length l - k) (drop k l) (omega (arith, length-drop k l))

pub targets_behind : (xs : List Node) (ys : List Name) (k : ℕ) → ys ≡ map target_in (map node_view xs)
    → take (length ys - k) (drop k ys) ≡ map target_in (map node_view (take (length xs - k) (drop k xs)))
targets_behind xs ys k e =
    all_behind ys k ∙ ap (λ (l : List Name). drop k l) e ∙ drop-map target_in k (map node_view xs)
    ∙ ap (λ (l : List nodes.Node). map target_in l) (drop-map node_view k xs)
    ∙ ap (λ (l : List Node). map target_in (map node_view l)) (sym (all_behind xs k))
