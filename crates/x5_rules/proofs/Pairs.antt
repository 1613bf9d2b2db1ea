-- The rule of an RDN, over the pairs that are read.
use Rattle.std.proofs.Common.{◌≡◌, ◌&&◌, ℕ, Bool, nat_lt, nat_le, List, length, map, ap, sym, ◌∙◌}
use Rattle.std.proofs.lemmas.List.{length-map}
use Rattle.x5_model.specs.Normal as normal
use Rattle.x5_model.specs.Words.{distinct, sorted}
use Rattle.x5_model_typed.specs.Nodes as nodes
use Rattle.x5_model_typed.specs.Leaves.{where_so}
use Rattle.x5_model_typed.specs.Rules as rules
use Rattle.x5_types.specs.declared.node.Node.{Node}
use Rattle.x5_types.specs.NodeView.{node_view}

pub rdn_is : (n : nodes.Node) (l : List Node) (r : Bool) → nodes.parts n ≡ map node_view l
    → r ≡ (nat_lt 0 (length l) && nat_le (length l) normal.most_pairs && distinct rules.same_type (map node_view l))
    → where_so r (nodes.Many (nodes.row (sorted rules.pair_below (map node_view l)))) ≡ rules.rdn_rule n
rdn_is n l r e is =
    ap (λ (b : Bool). where_so b (nodes.Many (nodes.row (sorted rules.pair_below (map node_view l))))) is
    ∙ sym (ap (λ (k : ℕ). where_so (nat_lt 0 k && nat_le k normal.most_pairs && distinct rules.same_type
    (map node_view l)) (nodes.Many (nodes.row (sorted rules.pair_below (map node_view l)))))
    (length-map l node_view))
    ∙ sym (ap (λ (ps : List nodes.Node). where_so
    (nat_lt 0 (length ps) && nat_le (length ps) normal.most_pairs && distinct rules.same_type ps)
    (nodes.Many (nodes.row (sorted rules.pair_below ps)))) e)
