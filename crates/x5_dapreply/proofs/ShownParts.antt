-- An attribute that is shown is written and said by its type and its values.
use Rattle.std.proofs.Common.{◌≡◌, refl, ◌∙◌, List, [], ◌∷◌, map, ap, ap₂}
use Rattle.x5_model_messages.specs.Replies as replies
use Rattle.x5_model_messages.specs.Terms as terms
use Rattle.x5_model_typed.specs.Nodes as nodes
use Rattle.x5_ops.specs.AnswerViews.{shown_view}
use Rattle.x5_ops.specs.declared.requests.Attribute.{Attribute}
use Rattle.x5_syntax.specs.TypeView.{type_view}
use Rattle.x5_syntax.specs.ValueView.{value_view}
use Rattle.x5_syntax.specs.declared.values.Value.{Value}

written_values : (vs : List Value) → map (λ v. terms.value_node (value_view v)) vs ≡ map terms.value_node (map value_view vs)
written_values [] = refl
written_values (v ∷ vs) = ap (λ (ns : List nodes.Node). terms.value_node (value_view v) ∷ ns) (written_values vs)

pub shown_is : (a : Attribute) (kind vs : nodes.Node) (slice : List Value)
    → kind ≡ terms.type_node (type_view a.kind)
    → vs ≡ terms.node_of (map (λ v. terms.value_node (value_view v)) slice) → slice ≡ a.values
    → terms.node_of (kind ∷ vs ∷ []) ≡ replies.shown_node (shown_view a)
shown_is a kind vs slice is_kind are same =
    ap₂ (λ (x y : nodes.Node). terms.node_of (x ∷ y ∷ [])) is_kind
    (are ∙ ap (λ (l : List Value). terms.node_of (map (λ v. terms.value_node (value_view v)) l)) same
    ∙ ap terms.node_of (written_values a.values))
