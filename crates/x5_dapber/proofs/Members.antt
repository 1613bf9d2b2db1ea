-- Members that are so, by what they stand for.
use Rattle.std.proofs.Common.{◌≡◌, ◌≢◌, List, [], ◌∷◌, length, map, get_or, refl, ap, ap₂, sym, subst, ◌∙◌}
use Rattle.std.specs.Prelude.{All}
use Rattle.std.proofs.lemmas.List.Elements.{All-nil, All-cons, All-head, All-tail, All-same}
use Rattle.x5_model_typed.specs.Nodes as nodes
use Rattle.x5_types.specs.declared.node.Node.{Node}
use Rattle.x5_types.specs.NodeView.{node_view}
use Rattle.x5_dapber.specs.Sayable.{OfOne, OfTwo, OfThree, OfFive}

mapped : (P : nodes.Node → Type 0) (xs : List Node) → All P (map node_view xs) → All (λ n. P (node_view n)) xs
mapped P [] h = All-nil (λ (n : Node). P (node_view n))
mapped P (x ∷ xs) h =
    All-cons (λ (n : Node). P (node_view n)) x xs (All-head P (node_view x) (map node_view xs) h)
    (mapped P xs (All-tail P (node_view x) (map node_view xs) h))

pub members_are : (P : nodes.Node → Type 0) (xs : List Node) (ns : List nodes.Node) → map node_view xs ≡ ns → All P ns
    → All (λ n. P (node_view n)) xs
members_are P xs ns e h = mapped P xs (All-same P (map node_view xs) ns e h)

-- ---- of just so many, with those that stand at the places

pub one_is : (P : nodes.Node → Type 0) (xs : List Node) (ns : List nodes.Node) (a : Node) → map node_view xs ≡ ns
    → a ≡ get_or xs 0 a → OfOne P ns → (ns ≡ node_view a ∷ []) × P (node_view a)
one_is P xs ns a e f h =
    let w = by xs f (subst (λ (l : List nodes.Node). OfOne P l) (sym e) h) in (sym e ∙ w.0, w.1)
  where
    by : (ys : List Node) → a ≡ get_or ys 0 a → OfOne P (map node_view ys) → (map node_view ys ≡ node_view a ∷ []) × P (node_view a)
    by [] g k = absurd k
    by (x ∷ []) g k =
        (ap (λ (v : Node). node_view v ∷ []) (sym g), subst (λ (v : Node). P (node_view v)) (sym g) k)
    by (x ∷ y ∷ l) g k = absurd k

pub two_are : (P : nodes.Node → nodes.Node → Type 0) (xs : List Node) (ns : List nodes.Node) (a b : Node)
    → map node_view xs ≡ ns → a ≡ get_or xs 0 a → b ≡ get_or xs 1 b → OfTwo P ns
    → (ns ≡ node_view a ∷ node_view b ∷ []) × P (node_view a) (node_view b)
two_are P xs ns a b e f g h =
    let w = by xs f g (subst (λ (l : List nodes.Node). OfTwo P l) (sym e) h) in (sym e ∙ w.0, w.1)
  where
    by : (ys : List Node) → a ≡ get_or ys 0 a → b ≡ get_or ys 1 b → OfTwo P (map node_view ys)
        → (map node_view ys ≡ node_view a ∷ node_view b ∷ []) × P (node_view a) (node_view b)
    by [] f' g' k = absurd k
    by (x ∷ []) f' g' k = absurd k
    by (x ∷ y ∷ []) f' g' k = (
      ap₂ (λ (v w : Node). node_view v ∷ node_view w ∷ []) (sym f') (sym g'),
      subst (λ (v : Node). P (node_view v) (node_view b)) (sym f') (subst (λ (w : Node). P (node_view x) (node_view w)) (sym g') k),
    )
    by (x ∷ y ∷ z ∷ l) f' g' k = absurd k

-- the third stands at no place that is told
pub record AreThree (P : nodes.Node → nodes.Node → nodes.Node → Type 0) (ns : List nodes.Node) (a b : Node) : Type 0 where
  pub third : nodes.Node
  pub split : ns ≡ node_view a ∷ node_view b ∷ third ∷ []
  pub are : P (node_view a) (node_view b) third

pub three_are : (P : nodes.Node → nodes.Node → nodes.Node → Type 0) (xs : List Node) (a b : Node)
    → a ≡ get_or xs 0 a → b ≡ get_or xs 1 b → OfThree P (map node_view xs) → AreThree P (map node_view xs) a b
three_are P [] a b f g k = absurd k
three_are P (x ∷ []) a b f g k = absurd k
three_are P (x ∷ y ∷ []) a b f g k = absurd k
three_are P (x ∷ y ∷ z ∷ []) a b f g k = record {
  third = node_view z;
  split = ap₂ (λ (v w : Node). node_view v ∷ node_view w ∷ node_view z ∷ []) (sym f) (sym g);
  are = subst (λ (v : Node). P (node_view v) (node_view b) (node_view z)) (sym f)
      (subst (λ (w : Node). P (node_view x) (node_view w) (node_view z)) (sym g) k);
}
three_are P (x ∷ y ∷ z ∷ u ∷ l) a b f g k = absurd k

pub not_three : (P : nodes.Node → nodes.Node → nodes.Node → Type 0) (xs : List Node) (ns : List nodes.Node)
    → map node_view xs ≡ ns → length xs ≢ 3 → OfThree P ns → ⊥
not_three P xs ns e f h = by xs f (subst (λ (l : List nodes.Node). OfThree P l) (sym e) h)
  where
    by : (ys : List Node) → length ys ≢ 3 → OfThree P (map node_view ys) → ⊥
    by [] f' k = k
    by (x ∷ []) f' k = k
    by (x ∷ y ∷ []) f' k = k
    by (x ∷ y ∷ z ∷ []) f' k = f' refl
    by (x ∷ y ∷ z ∷ u ∷ l) f' k = k

-- just three
pub record IsTriple (P : nodes.Node → nodes.Node → nodes.Node → Type 0) (ns : List nodes.Node) (a b c : Node) : Type 0 where
  pub split : ns ≡ node_view a ∷ node_view b ∷ node_view c ∷ []
  pub are : P (node_view a) (node_view b) (node_view c)

pub triple_is : (P : nodes.Node → nodes.Node → nodes.Node → Type 0) (xs : List Node) (ns : List nodes.Node) (a b c : Node)
    → map node_view xs ≡ ns → a ≡ get_or xs 0 a → b ≡ get_or xs 1 b → c ≡ get_or xs 2 c → OfThree P ns → IsTriple P ns a b c
triple_is P xs ns a b c e f g h k =
    subst (λ (l : List nodes.Node). IsTriple P l a b c) e (by xs f g h (subst (λ (l : List nodes.Node). OfThree P l) (sym e) k))
  where
    by : (ys : List Node) → a ≡ get_or ys 0 a → b ≡ get_or ys 1 b → c ≡ get_or ys 2 c → OfThree P (map node_view ys)
        → IsTriple P (map node_view ys) a b c
    by [] f' g' h' k' = absurd k'
    by (x ∷ []) f' g' h' k' = absurd k'
    by (x ∷ y ∷ []) f' g' h' k' = absurd k'
    by (x ∷ y ∷ z ∷ []) f' g' h' k' =
        subst (λ (v : Node). IsTriple P (node_view x ∷ node_view y ∷ node_view z ∷ []) v b c) (sym f')
        (subst (λ (v : Node). IsTriple P (node_view x ∷ node_view y ∷ node_view z ∷ []) x v c) (sym g')
        (subst (λ (v : Node). IsTriple P (node_view x ∷ node_view y ∷ node_view z ∷ []) x y v) (sym h')
        (record { split = refl; are = k' })))
    by (x ∷ y ∷ z ∷ u ∷ l) f' g' h' k' = absurd k'

pub not_five : (P : nodes.Node → nodes.Node → nodes.Node → nodes.Node → nodes.Node → Type 0) (xs : List Node)
    → length xs ≢ 5 → OfFive P (map node_view xs) → ⊥
not_five P [] f k = k
not_five P (a ∷ []) f k = k
not_five P (a ∷ b ∷ []) f k = k
not_five P (a ∷ b ∷ c ∷ []) f k = k
not_five P (a ∷ b ∷ c ∷ d ∷ []) f k = k
not_five P (a ∷ b ∷ c ∷ d ∷ e ∷ []) f k = f refl
not_five P (a ∷ b ∷ c ∷ d ∷ e ∷ g ∷ l) f k = k

-- those at the places, whatever stands behind the last
pub five_at : (P : nodes.Node → nodes.Node → nodes.Node → nodes.Node → nodes.Node → Type 0) (xs : List Node) (d : Node)
    → OfFive P (map node_view xs)
    → P (node_view (get_or xs 0 d)) (node_view (get_or xs 1 d)) (node_view (get_or xs 2 d)) (node_view (get_or xs 3 d)) (node_view (get_or xs 4 d))
five_at P [] x k = absurd k
five_at P (a ∷ []) x k = absurd k
five_at P (a ∷ b ∷ []) x k = absurd k
five_at P (a ∷ b ∷ c ∷ []) x k = absurd k
five_at P (a ∷ b ∷ c ∷ d ∷ []) x k = absurd k
five_at P (a ∷ b ∷ c ∷ d ∷ e ∷ []) x k = k
five_at P (a ∷ b ∷ c ∷ d ∷ e ∷ g ∷ l) x k = absurd k

pub three_at : (P : nodes.Node → nodes.Node → nodes.Node → Type 0) (xs : List Node) (d : Node) → OfThree P (map node_view xs)
    → P (node_view (get_or xs 0 d)) (node_view (get_or xs 1 d)) (node_view (get_or xs 2 d))
three_at P [] x k = absurd k
three_at P (a ∷ []) x k = absurd k
three_at P (a ∷ b ∷ []) x k = absurd k
three_at P (a ∷ b ∷ c ∷ []) x k = k
three_at P (a ∷ b ∷ c ∷ d ∷ l) x k = absurd k

pub record AreFive (P : nodes.Node → nodes.Node → nodes.Node → nodes.Node → nodes.Node → Type 0) (ns : List nodes.Node)
    (a b c d : Node) : Type 0 where
  pub fifth : nodes.Node
  pub split : ns ≡ node_view a ∷ node_view b ∷ node_view c ∷ node_view d ∷ fifth ∷ []
  pub are : P (node_view a) (node_view b) (node_view c) (node_view d) fifth

pub five_are : (P : nodes.Node → nodes.Node → nodes.Node → nodes.Node → nodes.Node → Type 0) (xs : List Node) (a b c d : Node)
    → a ≡ get_or xs 0 a → b ≡ get_or xs 1 b → c ≡ get_or xs 2 c → d ≡ get_or xs 3 d → OfFive P (map node_view xs)
    → AreFive P (map node_view xs) a b c d
five_are P [] a b c d f g h i k = absurd k
five_are P (p ∷ []) a b c d f g h i k = absurd k
five_are P (p ∷ q ∷ []) a b c d f g h i k = absurd k
five_are P (p ∷ q ∷ r ∷ []) a b c d f g h i k = absurd k
five_are P (p ∷ q ∷ r ∷ s ∷ []) a b c d f g h i k = absurd k
five_are P (p ∷ q ∷ r ∷ s ∷ t ∷ []) a b c d f g h i k =
    let ns = map node_view (p ∷ q ∷ r ∷ s ∷ t ∷ []) in
    subst (λ (v : Node). AreFive P ns v b c d) (sym f)
    (subst (λ (v : Node). AreFive P ns p v c d) (sym g)
    (subst (λ (v : Node). AreFive P ns p q v d) (sym h)
    (subst (λ (v : Node). AreFive P ns p q r v) (sym i)
    (record { fifth = node_view t; split = refl; are = k }))))
five_are P (p ∷ q ∷ r ∷ s ∷ t ∷ u ∷ l) a b c d f g h i k = absurd k

-- ---- a node of just so many

pub as_one : (n t : nodes.Node) → nodes.parts n ≡ t ∷ [] → n ≡ nodes.Many (nodes.More t nodes.Nil)
as_one (nodes.Many (nodes.More a nodes.Nil)) t e = (let same : a ≡ t = cc in ap (λ (x : nodes.Node). nodes.Many (nodes.More x nodes.Nil)) same)
as_one (nodes.Many nodes.Nil) t e = absurd (cc e)
as_one (nodes.Many (nodes.More a (nodes.More b ns))) t e = absurd (cc e)
as_one nodes.Vacant t e = absurd (cc e)
as_one (nodes.Flag b) t e = absurd (cc e)
as_one (nodes.Number k) t e = absurd (cc e)
as_one (nodes.Oid arcs) t e = absurd (cc e)
as_one (nodes.Bits b) t e = absurd (cc e)
as_one (nodes.Octets o) t e = absurd (cc e)
as_one (nodes.Text x) t e = absurd (cc e)
as_one (nodes.Chosen tag m) t e = absurd (cc e)

pub as_two : (n t u : nodes.Node) → nodes.parts n ≡ t ∷ u ∷ [] → n ≡ nodes.Many (nodes.More t (nodes.More u nodes.Nil))
as_two (nodes.Many (nodes.More a (nodes.More b nodes.Nil))) t u e =
    let first : a ≡ t = cc in
    let second : b ≡ u = cc in
    ap₂ (λ (x y : nodes.Node). nodes.Many (nodes.More x (nodes.More y nodes.Nil))) first second
as_two (nodes.Many nodes.Nil) t u e = absurd (cc e)
as_two (nodes.Many (nodes.More a nodes.Nil)) t u e = absurd (cc e)
as_two (nodes.Many (nodes.More a (nodes.More b (nodes.More c ns)))) t u e = absurd (cc e)
as_two nodes.Vacant t u e = absurd (cc e)
as_two (nodes.Flag b) t u e = absurd (cc e)
as_two (nodes.Number k) t u e = absurd (cc e)
as_two (nodes.Oid arcs) t u e = absurd (cc e)
as_two (nodes.Bits b) t u e = absurd (cc e)
as_two (nodes.Octets o) t u e = absurd (cc e)
as_two (nodes.Text x) t u e = absurd (cc e)
as_two (nodes.Chosen tag m) t u e = absurd (cc e)

pub as_three : (n t u v : nodes.Node) → nodes.parts n ≡ t ∷ u ∷ v ∷ []
    → n ≡ nodes.Many (nodes.More t (nodes.More u (nodes.More v nodes.Nil)))
as_three (nodes.Many (nodes.More a (nodes.More b (nodes.More c nodes.Nil)))) t u v e =
    let first : a ≡ t = cc in
    let second : b ≡ u = cc in
    let third : c ≡ v = cc in
    ap₂ (λ (x y : nodes.Node). nodes.Many (nodes.More x (nodes.More y (nodes.More c nodes.Nil)))) first second
    ∙ ap (λ (x : nodes.Node). nodes.Many (nodes.More t (nodes.More u (nodes.More x nodes.Nil)))) third
as_three (nodes.Many nodes.Nil) t u v e = absurd (cc e)
as_three (nodes.Many (nodes.More a nodes.Nil)) t u v e = absurd (cc e)
as_three (nodes.Many (nodes.More a (nodes.More b nodes.Nil))) t u v e = absurd (cc e)
as_three (nodes.Many (nodes.More a (nodes.More b (nodes.More c (nodes.More d ns))))) t u v e = absurd (cc e)
as_three nodes.Vacant t u v e = absurd (cc e)
as_three (nodes.Flag b) t u v e = absurd (cc e)
as_three (nodes.Number k) t u v e = absurd (cc e)
as_three (nodes.Oid arcs) t u v e = absurd (cc e)
as_three (nodes.Bits b) t u v e = absurd (cc e)
as_three (nodes.Octets o) t u v e = absurd (cc e)
as_three (nodes.Text x) t u v e = absurd (cc e)
as_three (nodes.Chosen tag m) t u v e = absurd (cc e)
