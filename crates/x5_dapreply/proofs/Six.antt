-- Just six members, by what they stand for.
use Rattle.std.proofs.Common.{◌≡◌, List, [], ◌∷◌, map, get_or, refl, sym, ap, subst, ◌∙◌}
use Rattle.x5_model_typed.specs.Nodes as nodes
use Rattle.x5_types.specs.declared.node.Node.{Node}
use Rattle.x5_types.specs.NodeView.{node_view}
use Rattle.x5_dapreply.specs.Sayable.{OfSix}

abbrev pub Six : Type 1
Six = nodes.Node → nodes.Node → nodes.Node → nodes.Node → nodes.Node → nodes.Node → Type 0

pub record AreSix (P : Six) (ns : List nodes.Node) (a b c d e f : Node) : Type 0 where
  pub split : ns ≡ node_view a ∷ node_view b ∷ node_view c ∷ node_view d ∷ node_view e ∷ node_view f ∷ []
  pub are : P (node_view a) (node_view b) (node_view c) (node_view d) (node_view e) (node_view f)

pub six_are : (P : Six) (xs : List Node) (ns : List nodes.Node) (a b c d e f : Node) → map node_view xs ≡ ns
    → a ≡ get_or xs 0 a → b ≡ get_or xs 1 b → c ≡ get_or xs 2 c → d ≡ get_or xs 3 d → e ≡ get_or xs 4 e → f ≡ get_or xs 5 f
    → OfSix P ns → AreSix P ns a b c d e f
six_are P xs ns a b c d e f same i j k l m n h =
    subst (λ (v : List nodes.Node). AreSix P v a b c d e f) same
    (by xs i j k l m n (subst (λ (v : List nodes.Node). OfSix P v) (sym same) h))
  where
    by : (ys : List Node) → a ≡ get_or ys 0 a → b ≡ get_or ys 1 b → c ≡ get_or ys 2 c → d ≡ get_or ys 3 d → e ≡ get_or ys 4 e
        → f ≡ get_or ys 5 f → OfSix P (map node_view ys) → AreSix P (map node_view ys) a b c d e f
    by [] i' j' k' l' m' n' o = absurd o
    by (p ∷ []) i' j' k' l' m' n' o = absurd o
    by (p ∷ q ∷ []) i' j' k' l' m' n' o = absurd o
    by (p ∷ q ∷ r ∷ []) i' j' k' l' m' n' o = absurd o
    by (p ∷ q ∷ r ∷ s ∷ []) i' j' k' l' m' n' o = absurd o
    by (p ∷ q ∷ r ∷ s ∷ t ∷ []) i' j' k' l' m' n' o = absurd o
    by (p ∷ q ∷ r ∷ s ∷ t ∷ u ∷ []) i' j' k' l' m' n' o =
        let vs = map node_view (p ∷ q ∷ r ∷ s ∷ t ∷ u ∷ []) in
        subst (λ (v : Node). AreSix P vs v b c d e f) (sym i')
        (subst (λ (v : Node). AreSix P vs p v c d e f) (sym j')
        (subst (λ (v : Node). AreSix P vs p q v d e f) (sym k')
        (subst (λ (v : Node). AreSix P vs p q r v e f) (sym l')
        (subst (λ (v : Node). AreSix P vs p q r s v f) (sym m')
        (subst (λ (v : Node). AreSix P vs p q r s t v) (sym n')
        (record { split = refl; are = o }))))))
    by (p ∷ q ∷ r ∷ s ∷ t ∷ u ∷ w ∷ ys) i' j' k' l' m' n' o = absurd o

row_list : (ns : nodes.Nodes) → nodes.row (nodes.list ns) ≡ ns
row_list nodes.Nil = refl
row_list (nodes.More n ns) = ap (nodes.More n) (row_list ns)

-- what has parts is made of them
pub as_row : (n x : nodes.Node) (l : List nodes.Node) → nodes.parts n ≡ x ∷ l → n ≡ nodes.Many (nodes.row (x ∷ l))
as_row (nodes.Many ns) x l e = ap nodes.Many (sym (row_list ns)) ∙ ap (λ (k : List nodes.Node). nodes.Many (nodes.row k)) e
as_row nodes.Vacant x l e = absurd (cc e)
as_row (nodes.Flag b) x l e = absurd (cc e)
as_row (nodes.Number k) x l e = absurd (cc e)
as_row (nodes.Oid arcs) x l e = absurd (cc e)
as_row (nodes.Bits b) x l e = absurd (cc e)
as_row (nodes.Octets o) x l e = absurd (cc e)
as_row (nodes.Text t) x l e = absurd (cc e)
as_row (nodes.Chosen tag m) x l e = absurd (cc e)
