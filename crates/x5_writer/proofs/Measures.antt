-- Parts of a value are smaller than it.
use Rattle.std.proofs.Common.{◌≡◌, ℕ, zero, suc, ◌+◌, ◌<◌, true, List, [], ◌∷◌, length, get_or, map, ap, sym, subst, ◌∙◌, arith}
use Rattle.x5_model_typed.specs.Nodes as nodes
use Rattle.x5_model_typed.specs.Nodes.{Many, row, parts}
use Rattle.x5_model_typed.specs.Written.{is_many}
use Rattle.x5_model_typed.proofs.Soundness.{row_list}
use Rattle.x5_types.specs.declared.node.Node.{Node}
use Rattle.x5_types.specs.NodeView.{node_view}
use Rattle.x5_writer.specs.Contents.{weight, weights}

-- a value that has parts is they
pub many_of_parts : (n : nodes.Node) (ms : List nodes.Node) → is_many n ≡ true → ms ≡ parts n → n ≡ Many (row ms)
many_of_parts (Many ns) ms h e = ap Many (sym (row_list ns)) ∙ ap (λ (l : List nodes.Node). Many (row l)) (sym e)
many_of_parts nodes.Vacant ms h e = absurd (cc h)
many_of_parts (nodes.Flag b) ms h e = absurd (cc h)
many_of_parts (nodes.Number k) ms h e = absurd (cc h)
many_of_parts (nodes.Oid arcs) ms h e = absurd (cc h)
many_of_parts (nodes.Bits bits) ms h e = absurd (cc h)
many_of_parts (nodes.Octets os) ms h e = absurd (cc h)
many_of_parts (nodes.Text t) ms h e = absurd (cc h)
many_of_parts (nodes.Chosen tag n) ms h e = absurd (cc h)

pub parts_weigh : (n : nodes.Node) (ms : List nodes.Node) → is_many n ≡ true → ms ≡ parts n → weight n ≡ weights (row ms) + 1
parts_weigh n ms h e = ap weight (many_of_parts n ms h e)

pub member_weighs : (xs : List Node) (i : ℕ) (d : Node) → i < length xs → weight (node_view (get_or xs i d)) < weights (row (map node_view xs))
member_weighs [] i d h = absurd (omega (arith, h))
member_weighs (x ∷ xs) zero d h = omega arith
member_weighs (x ∷ xs) (suc i) d h =
    let less : weight (node_view (get_or xs i d)) < weights (row (map node_view xs)) = member_weighs xs i d (omega (arith, h)) in
    omega (arith, less)

pub part_weighs : (xs : List Node) (i : ℕ) (x : Node) → x ≡ get_or xs i x → i < length xs
    → weight (node_view x) < weights (row (map node_view xs))
part_weighs xs i x is h =
    subst (λ (y : Node). weight (node_view y) < weights (row (map node_view xs))) (sym is) (member_weighs xs i x h)
