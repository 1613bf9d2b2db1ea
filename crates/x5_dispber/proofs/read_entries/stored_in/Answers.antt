-- The members of the second component are values of the type that the first one says.
use Rattle.std.proofs.Common.{◌≡◌, ℕ, List, map, ap, ap₂, sym, subst, ◌∙◌}
use Rattle.std.specs.Prelude.{All}
use Rattle.x5_model.specs.Entries.{Stored}
use Rattle.x5_model.specs.Values.{StoredValue}
use Rattle.x5_model_messages.specs.Shadows as shadows
use Rattle.x5_model_typed.specs.Nodes as nodes
use Rattle.x5_model_typed.specs.Rules as rules
use Rattle.x5_types.specs.NodeView.{node_view}
use Rattle.x5_dapber.proofs.Members.{as_two, members_are, two_are}
use Rattle.x5_dispber.specs.Sayable.{IsStoredValue}
use Rattle.x5_dispber.proofs.read_entries.stored_in.Goals as goal

abbrev of_kind : ℕ → List StoredValue → Stored
of_kind k vs = record { kind = k; values = vs }

abbrev said : nodes.Node → nodes.Node → Type 0
said type values = All (IsStoredValue (rules.type_number type)) (nodes.parts values)

pub stored_values_in-requires : goal.stored_values_in-requires
stored_values_in-requires c =
    let both = two_are said c.parts.result.now _ c.kind-item.result c.values-item.result c.parts.ensures c.kind-item.is
    c.values-item.is c.requires in
    subst (λ (k : ℕ). All (λ n. IsStoredValue k (node_view n)) c.parts-2.result.now) (sym c.type_in-kind.ensures)
    (members_are (IsStoredValue (rules.type_number (node_view c.kind-item.result))) c.parts-2.result.now _ c.parts-2.ensures both.1)

pub returns : goal.returns
returns c =
    let both = two_are said c.parts.result.now _ c.kind-item.result c.values-item.result c.parts.ensures c.kind-item.is
    c.values-item.is c.requires in
    let n = node_view c.args.node.now in
    let type = node_view c.kind-item.result in
    let values = node_view c.values-item.result in
    ap (of_kind c.type_in-kind.result) (c.in_ok-values.ensures
    ∙ ap (map (λ v. shadows.stored_value c.type_in-kind.result (rules.value_in v))) c.parts-2.ensures)
    ∙ ap (λ (k : ℕ). of_kind k (map (λ v. shadows.stored_value k (rules.value_in v)) (nodes.parts values))) c.type_in-kind.ensures
    ∙ sym (ap shadows.stored_in (as_two n type values both.0))
