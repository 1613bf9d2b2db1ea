-- What an agent's message carries: its id, its code, its chaining arguments and the argument of its operation.
use Rattle.std.proofs.Common.{◌≡◌, ◌≢◌, ℕ, List, [], ◌∷◌, length, map, get_or, refl, ap, ap₂, sym, subst, ◌∙◌}
use Rattle.x5_model_messages.specs.Chained.{Chained, carried_in, chained_in}
use Rattle.x5_model_messages.specs.Replies.{or_zero}
use Rattle.x5_model_messages.specs.Terms.{number_in}
use Rattle.x5_model_typed.specs.Nodes as nodes
use Rattle.x5_types.specs.declared.node.Node.{Node}
use Rattle.x5_types.specs.NodeView.{node_view}
use Rattle.x5_dapber.specs.Sayable.{IsCount, IsArgument, OfTwo, OfThree}
use Rattle.x5_dapber.proofs.Members.{three_at, triple_is, not_three, as_three}
use Rattle.x5_dspber.specs.Sayable.{IsChaining, IsCarried, IsChained}

not_two : (P : nodes.Node → nodes.Node → Type 0) (xs : List Node) → length xs ≢ 2 → OfTwo P (map node_view xs) → ⊥
not_two P [] f k = k
not_two P (x ∷ []) f k = k
not_two P (x ∷ y ∷ []) f k = f refl
not_two P (x ∷ y ∷ z ∷ l) f k = k

two_at : (P : nodes.Node → nodes.Node → Type 0) (xs : List Node) (d : Node) → OfTwo P (map node_view xs)
    → P (node_view (get_or xs 0 d)) (node_view (get_or xs 1 d))
two_at P [] x k = absurd k
two_at P (a ∷ []) x k = absurd k
two_at P (a ∷ b ∷ []) x k = k
two_at P (a ∷ b ∷ c ∷ l) x k = absurd k

-- the two components of what is carried
module _ (xs : List Node) (n : nodes.Node) (code : ℕ) (parts : map node_view xs ≡ nodes.parts n) (so : IsCarried code n) where
  Both : nodes.Node → nodes.Node → Type 0
  Both chaining argument = IsChaining chaining × IsArgument code argument

  both_so : OfTwo Both (map node_view xs)
  unfolding Both
  both_so = subst (λ (l : List nodes.Node). OfTwo Both l) (sym parts) so

  pub not_both : length xs ≢ 2 → ⊥
  not_both others = not_two Both xs others both_so

  pub chaining_so : (chaining : Node) → chaining ≡ get_or xs 0 chaining → IsChaining (node_view chaining)
  unfolding Both
  chaining_so chaining at =
      subst (λ (v : Node). IsChaining (node_view v)) (sym at) (two_at Both xs chaining both_so).0

  pub argument_so : (argument : Node) → argument ≡ get_or xs 1 argument → IsArgument code (node_view argument)
  unfolding Both
  argument_so argument at =
      subst (λ (v : Node). IsArgument code (node_view v)) (sym at) (two_at Both xs argument both_so).1

number : nodes.Node → ℕ
number n = or_zero (number_in n)

AreSo : nodes.Node → nodes.Node → nodes.Node → Type 0
unfolding number
AreSo id code carried = IsCount id × IsCount code × IsCarried (number code) carried

carried_by : (ys : List Node) (code carried : Node) → code ≡ get_or ys 1 code → carried ≡ get_or ys 2 carried
    → OfThree AreSo (map node_view ys) → IsCarried (number (node_view code)) (node_view carried)
unfolding AreSo
carried_by [] code carried f g k = absurd k
carried_by (x ∷ []) code carried f g k = absurd k
carried_by (x ∷ y ∷ []) code carried f g k = absurd k
carried_by (x ∷ y ∷ z ∷ []) code carried f g k =
    subst (λ (v : Node). IsCarried (number (node_view v)) (node_view carried)) (sym f)
    (subst (λ (w : Node). IsCarried (number (node_view y)) (node_view w)) (sym g) k.2)
carried_by (x ∷ y ∷ z ∷ u ∷ l) code carried f g k = absurd k

abbrev pair : ℕ → Chained → ℕ × Chained
pair k m = (k, m)

-- the three components of what is chosen
module _ (xs : List Node) (n inner : nodes.Node) (tag : ℕ) (is : n ≡ nodes.Chosen tag inner)
    (parts : map node_view xs ≡ nodes.parts inner) (so : IsChained n) where
  are_so : OfThree AreSo (map node_view xs)
  unfolding AreSo number
  are_so = subst (λ (l : List nodes.Node). OfThree AreSo l) (sym parts) (subst IsChained is so)

  pub not_so : length xs ≢ 3 → ⊥
  not_so others = not_three AreSo xs (map node_view xs) refl others are_so

  pub code_so : (code : Node) → code ≡ get_or xs 1 code → IsCount (node_view code)
  unfolding AreSo
  code_so code at = subst (λ (v : Node). IsCount (node_view v)) (sym at) (three_at AreSo xs code are_so).1

  pub id_so : (id : Node) → id ≡ get_or xs 0 id → IsCount (node_view id)
  unfolding AreSo
  id_so id at = subst (λ (v : Node). IsCount (node_view v)) (sym at) (three_at AreSo xs id are_so).0

  pub carried_so : (code carried : Node) (k : ℕ) → code ≡ get_or xs 1 code → carried ≡ get_or xs 2 carried
      → k ≡ or_zero (number_in (node_view code)) → IsCarried k (node_view carried)
  unfolding number
  carried_so code carried k f g same =
      subst (λ (m : ℕ). IsCarried m (node_view carried)) (sym same) (carried_by xs code carried f g are_so)

  pub chained_said : (id code carried : Node) (k l : ℕ) (m : Chained) → id ≡ get_or xs 0 id → code ≡ get_or xs 1 code
      → carried ≡ get_or xs 2 carried → k ≡ or_zero (number_in (node_view id)) → l ≡ or_zero (number_in (node_view code))
      → m ≡ carried_in l (node_view carried) → pair k m ≡ chained_in n
  chained_said id code carried k l m f g h of_id of_code of_carried =
      let triple = triple_is AreSo xs (map node_view xs) id code carried refl f g h are_so in
      let three = as_three inner (node_view id) (node_view code) (node_view carried) (sym parts ∙ triple.split) in
      ap₂ pair of_id (of_carried ∙ ap (λ (j : ℕ). carried_in j (node_view carried)) of_code)
      ∙ sym (ap chained_in (is ∙ ap (nodes.Chosen tag) three))
