-- Just five members, by what they stand for, and what they say of a message between agents.
use Rattle.std.proofs.Common.{◌≡◌, List, [], ◌∷◌, map, get_or, refl, sym, ap, subst, ◌∙◌}
use Rattle.x5_model.specs.References.{Progress, RefType}
use Rattle.x5_model.specs.Requests.{Request}
use Rattle.x5_model.specs.Values.{Name, Rdn}
use Rattle.x5_model_messages.specs.Chained.{Chained, chaining_in}
use Rattle.x5_model_messages.specs.Replies.{TraceItem, progress_in, kind_in, item_in}
use Rattle.x5_model_messages.specs.Terms.{name_of, rdn_of}
use Rattle.x5_model_typed.specs.Nodes as nodes
use Rattle.x5_types.specs.declared.node.Node.{Node}
use Rattle.x5_types.specs.NodeView.{node_view}
use Rattle.x5_dapber.specs.Sayable.{OfFive}
use Rattle.x5_dapreply.proofs.Six.{as_row}

abbrev pub Five : Type 1
Five = nodes.Node → nodes.Node → nodes.Node → nodes.Node → nodes.Node → Type 0

pub record AllFive (P : Five) (ns : List nodes.Node) (a b c d e : Node) : Type 0 where
  pub split : ns ≡ node_view a ∷ node_view b ∷ node_view c ∷ node_view d ∷ node_view e ∷ []
  pub are : P (node_view a) (node_view b) (node_view c) (node_view d) (node_view e)

pub all_five : (P : Five) (xs : List Node) (ns : List nodes.Node) (a b c d e : Node) → map node_view xs ≡ ns
    → a ≡ get_or xs 0 a → b ≡ get_or xs 1 b → c ≡ get_or xs 2 c → d ≡ get_or xs 3 d → e ≡ get_or xs 4 e
    → OfFive P ns → AllFive P ns a b c d e
all_five P xs ns a b c d e same i j k l m h =
    subst (λ (v : List nodes.Node). AllFive P v a b c d e) same
    (by xs i j k l m (subst (λ (v : List nodes.Node). OfFive P v) (sym same) h))
  where
    by : (ys : List Node) → a ≡ get_or ys 0 a → b ≡ get_or ys 1 b → c ≡ get_or ys 2 c → d ≡ get_or ys 3 d → e ≡ get_or ys 4 e
        → OfFive P (map node_view ys) → AllFive P (map node_view ys) a b c d e
    by [] i' j' k' l' m' o = absurd o
    by (p ∷ []) i' j' k' l' m' o = absurd o
    by (p ∷ q ∷ []) i' j' k' l' m' o = absurd o
    by (p ∷ q ∷ r ∷ []) i' j' k' l' m' o = absurd o
    by (p ∷ q ∷ r ∷ s ∷ []) i' j' k' l' m' o = absurd o
    by (p ∷ q ∷ r ∷ s ∷ t ∷ []) i' j' k' l' m' o =
        let vs = map node_view (p ∷ q ∷ r ∷ s ∷ t ∷ []) in
        subst (λ (v : Node). AllFive P vs v b c d e) (sym i')
        (subst (λ (v : Node). AllFive P vs p v c d e) (sym j')
        (subst (λ (v : Node). AllFive P vs p q v d e) (sym k')
        (subst (λ (v : Node). AllFive P vs p q r v e) (sym l')
        (subst (λ (v : Node). AllFive P vs p q r s v) (sym m')
        (record { split = refl; are = o })))))
    by (p ∷ q ∷ r ∷ s ∷ t ∷ u ∷ ys) i' j' k' l' m' o = absurd o

chained_of : Name → Progress → RefType → List Rdn → List TraceItem → Request → Chained
chained_of n p k x t r = record { target = n; progress = p; kind = k; exclusions = x; trace = t; request = r }

chained_same : (n m : Name) (p q : Progress) (k l : RefType) (x y : List Rdn) (t u : List TraceItem) (r s : Request)
    → n ≡ m → p ≡ q → k ≡ l → x ≡ y → t ≡ u → r ≡ s → chained_of n p k x t r ≡ chained_of m q l y u s
chained_same n m p q k l x y t u r s e f g h i j = cc

pub chaining_said : (r : Request) (n a b c d e : nodes.Node) (m : Chained) → nodes.parts n ≡ a ∷ b ∷ c ∷ d ∷ e ∷ []
    → m.target ≡ name_of a → m.progress ≡ progress_in b → m.kind ≡ kind_in d → m.exclusions ≡ map rdn_of (nodes.parts e)
    → m.trace ≡ map item_in (nodes.parts c) → m.request ≡ r → m ≡ chaining_in r n
unfolding chained_of
chaining_said r n a b c d e m are f g h i j k =
    chained_same _ _ _ _ _ _ _ _ _ _ _ _ f g h i j k ∙ sym (ap (chaining_in r) (as_row n a (b ∷ c ∷ d ∷ e ∷ []) are))
