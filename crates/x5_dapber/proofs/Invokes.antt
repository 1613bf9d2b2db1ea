-- A user's message: its id, the code of its operation and that one's argument.
use Rattle.std.proofs.Common.{◌≡◌, ◌≢◌, ℕ, List, [], ◌∷◌, length, map, get_or, refl, ap, ap₂, sym, subst, ◌∙◌}
use Rattle.x5_model.specs.Words.{in_option}
use Rattle.x5_model.specs.Requests as model
use Rattle.x5_model_messages.specs.Requests.{request_in, argument_in}
use Rattle.x5_model_messages.specs.Terms.{number_in}
use Rattle.x5_model_typed.specs.Nodes as nodes
use Rattle.x5_types.specs.declared.node.Node.{Node}
use Rattle.x5_types.specs.NodeView.{node_view}
use Rattle.x5_dapber.specs.Sayable.{IsCount, IsArgument, IsRequest, OfThree}
use Rattle.x5_dapber.proofs.Members.{three_at, triple_is, not_three, as_three}

abbrev number : nodes.Node → ℕ
number n = in_option 0 (λ k. k) (number_in n)

abbrev AreSo : nodes.Node → nodes.Node → nodes.Node → Type 0
AreSo id code argument = IsCount id × IsCount code × IsArgument (number code) argument

argument_by : (ys : List Node) (code argument : Node) → code ≡ get_or ys 1 code → argument ≡ get_or ys 2 argument
    → OfThree AreSo (map node_view ys) → IsArgument (number (node_view code)) (node_view argument)
argument_by [] code argument f g k = absurd k
argument_by (x ∷ []) code argument f g k = absurd k
argument_by (x ∷ y ∷ []) code argument f g k = absurd k
argument_by (x ∷ y ∷ z ∷ []) code argument f g k =
    subst (λ (v : Node). IsArgument (number (node_view v)) (node_view argument)) (sym f)
    (subst (λ (w : Node). IsArgument (number (node_view y)) (node_view w)) (sym g) k.2)
argument_by (x ∷ y ∷ z ∷ u ∷ l) code argument f g k = absurd k

abbrev pair : ℕ → model.Request → ℕ × model.Request
pair k r = (k, r)

-- the components of what is chosen
module _ (xs : List Node) (n inner : nodes.Node) (tag : ℕ) (is : n ≡ nodes.Chosen tag inner)
    (parts : map node_view xs ≡ nodes.parts inner) (so : IsRequest n) where
  are_so : OfThree AreSo (map node_view xs)
  are_so = subst (λ (l : List nodes.Node). OfThree AreSo l) (sym parts) (subst IsRequest is so)

  pub not_so : length xs ≢ 3 → ⊥
  not_so others = not_three AreSo xs (map node_view xs) refl others are_so

  pub code_so : (code : Node) → code ≡ get_or xs 1 code → IsCount (node_view code)
  code_so code at = subst (λ (v : Node). IsCount (node_view v)) (sym at) (three_at AreSo xs code are_so).1

  pub id_so : (id : Node) → id ≡ get_or xs 0 id → IsCount (node_view id)
  id_so id at = subst (λ (v : Node). IsCount (node_view v)) (sym at) (three_at AreSo xs id are_so).0

  pub argument_so : (code argument : Node) (k : ℕ) → code ≡ get_or xs 1 code → argument ≡ get_or xs 2 argument
      → k ≡ number (node_view code) → IsArgument k (node_view argument)
  argument_so code argument k f g same =
      subst (λ (m : ℕ). IsArgument m (node_view argument)) (sym same) (argument_by xs code argument f g are_so)

  pub said : (id code argument : Node) (k l : ℕ) (r : model.Request) → id ≡ get_or xs 0 id → code ≡ get_or xs 1 code
      → argument ≡ get_or xs 2 argument → k ≡ number (node_view id) → l ≡ number (node_view code)
      → r ≡ argument_in l (node_view argument) → pair k r ≡ request_in n
  said id code argument k l r f g h of_id of_code of_argument =
      let triple = triple_is AreSo xs (map node_view xs) id code argument refl f g h are_so in
      let three = as_three inner (node_view id) (node_view code) (node_view argument) (sym parts ∙ triple.split) in
      ap₂ pair of_id (of_argument ∙ ap (λ (m : ℕ). argument_in m (node_view argument)) of_code)
      ∙ sym (ap request_in (is ∙ ap (nodes.Chosen tag) three))
