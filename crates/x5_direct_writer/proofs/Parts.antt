-- What is written of attributes and entries has their parts as its components.
use Rattle.std.proofs.Common.{◌≡◌, ℕ, List, [], ◌∷◌, map, refl, ap, sym, subst, ◌∙◌}
use Rattle.x5_model.specs.Entries as entries
use Rattle.x5_model.specs.Values as values
use Rattle.x5_model_messages.specs.Replies as replies
use Rattle.x5_model_messages.specs.Shadows as shadows
use Rattle.x5_model_messages.specs.Terms as terms
use Rattle.x5_model_messages.specs.Terms.{node_of}
use Rattle.x5_model_typed.specs.Named as named
use Rattle.x5_model_typed.specs.Nodes.{Node}
use Rattle.x5_ops.specs.AnswerViews.{shown_view}
use Rattle.x5_ops.specs.declared.requests.Attribute.{Attribute}
use Rattle.x5_syntax.specs.TypeView.{type_view}
use Rattle.x5_syntax.specs.ValueView.{value_view}
use Rattle.x5_syntax.specs.declared.values.Value.{Value}
use Rattle.x5_direct_writer.proofs.Naming.{in_two}
use Rattle.x5_direct_writer.proofs.Putting.{HasTwo}

pub has_shown : (a : Attribute) (vs : List Value) → vs ≡ a.values
    → HasTwo named.Attribute named.AnyOid named.Values (terms.type_node (type_view a.kind))
    (node_of (map (λ v. terms.value_node (value_view v)) vs)) (replies.shown_node (shown_view a))
has_shown a vs is =
    subst (λ (ns : List Node). HasTwo named.Attribute named.AnyOid named.Values (terms.type_node (type_view a.kind))
    (node_of ns) (replies.shown_node (shown_view a)))
    (in_two terms.value_node value_view a.values
    ∙ ap (λ (l : List Value). map (λ v. terms.value_node (value_view v)) l) (sym is)) (λ w. refl)

pub has_stored : (a : entries.Stored) (k : ℕ) (vs : List values.StoredValue) → k ≡ a.kind → vs ≡ a.values
    → HasTwo named.Attribute named.AnyOid named.Values (terms.type_node (values.Known k))
    (node_of (map (λ v. terms.value_node v.value) vs)) (shadows.stored_node a)
has_stored a k vs kind all =
    subst (λ (n : ℕ). HasTwo named.Attribute named.AnyOid named.Values (terms.type_node (values.Known n))
    (node_of (map (λ v. terms.value_node v.value) vs)) (shadows.stored_node a)) (sym kind)
    (subst (λ (l : List values.StoredValue). HasTwo named.Attribute named.AnyOid named.Values
    (terms.type_node (values.Known a.kind)) (node_of (map (λ v. terms.value_node v.value) l)) (shadows.stored_node a))
    (sym all) (λ w. refl))

pub has_entry : (e : entries.Named) (n : values.Name) (l : List entries.Stored) → n ≡ e.name → l ≡ e.entry.attributes
    → HasTwo named.Entry named.Name named.Attributes (terms.name_node n) (node_of (map shadows.stored_node l))
    (shadows.entry_node e)
has_entry e n l name all =
    subst (λ (m : values.Name). HasTwo named.Entry named.Name named.Attributes (terms.name_node m)
    (node_of (map shadows.stored_node l)) (shadows.entry_node e)) (sym name)
    (subst (λ (m : List entries.Stored). HasTwo named.Entry named.Name named.Attributes (terms.name_node e.name)
    (node_of (map shadows.stored_node m)) (shadows.entry_node e)) (sym all) (λ w. refl))
