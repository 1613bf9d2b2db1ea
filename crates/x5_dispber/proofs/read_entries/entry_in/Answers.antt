-- The members of the third component are attributes, which are in order.
use Rattle.std.proofs.Common.{◌≡◌, true, List, [], ◌∷◌, get_or, map, ap, ap₂, sym, subst, ◌∙◌}
use Rattle.std.specs.Prelude.{All}
use Rattle.x5_model.specs.Attributes.{is_ordered}
use Rattle.x5_model.specs.Entries.{Named, Stored}
use Rattle.x5_model.specs.Values.{Name}
use Rattle.x5_model_messages.specs.Shadows as shadows
use Rattle.x5_model_messages.specs.Terms.{name_of}
use Rattle.x5_model_typed.specs.Nodes as nodes
use Rattle.x5_types.specs.NodeView.{node_view}
use Rattle.x5_dapber.proofs.Members.{as_three, members_are, triple_is}
use Rattle.x5_dispber.specs.Sayable.{IsStored}
use Rattle.x5_dispber.proofs.Parts.{middle}
use Rattle.x5_dispber.proofs.read_entries.entry_in.Goals as goal

abbrev said : nodes.Node → nodes.Node → nodes.Node → Type 0
said name from_entry attributes = All IsStored (nodes.parts attributes)

abbrev named_so : Name → List Stored → Named
named_so n as' = record { name = n; entry = record { attributes = as' } }

pub all_stored_in-requires : goal.all_stored_in-requires
all_stored_in-requires c =
    let three = triple_is said c.parts.result.now _ c.name-item.result (get_or c.parts.result.now 1 c.name-item.result) c.attributes-item.result c.parts.ensures
    c.name-item.is (middle c.parts.result.now c.name-item.result) c.attributes-item.is c.requires.0 in
    members_are IsStored c.parts-2.result.now _ c.parts-2.ensures three.are

-- the entry of the three components
whole_is : (n name from_entry attributes : nodes.Node) (as' : List Stored) → nodes.parts n ≡ name ∷ from_entry ∷ attributes ∷ []
    → as' ≡ map shadows.stored_in (nodes.parts attributes)
    → named_so (name_of name) as' ≡ shadows.entry_in n
whole_is n name from_entry attributes as' split are =
    ap (named_so (name_of name)) are ∙ sym (ap shadows.entry_in (as_three n name from_entry attributes split))

pub from_list-requires : goal.from_list-requires
from_list-requires c =
    let three = triple_is said c.parts.result.now _ c.name-item.result (get_or c.parts.result.now 1 c.name-item.result) c.attributes-item.result c.parts.ensures
    c.name-item.is (middle c.parts.result.now c.name-item.result) c.attributes-item.is c.requires.0 in
    let whole = whole_is (node_view c.args.node.now) (node_view c.name-item.result) (node_view (get_or c.parts.result.now 1 c.name-item.result))
    (node_view c.attributes-item.result) c.in_ok-attributes.attributes three.split
    (c.in_ok-attributes.ensures ∙ ap (map shadows.stored_in) c.parts-2.ensures) in
    subst (λ (e : Named). is_ordered e.entry ≡ true) (sym whole) c.requires.1

pub returns : goal.returns
returns c =
    let three = triple_is said c.parts.result.now _ c.name-item.result (get_or c.parts.result.now 1 c.name-item.result) c.attributes-item.result c.parts.ensures
    c.name-item.is (middle c.parts.result.now c.name-item.result) c.attributes-item.is c.requires.0 in
    let whole = whole_is (node_view c.args.node.now) (node_view c.name-item.result) (node_view (get_or c.parts.result.now 1 c.name-item.result))
    (node_view c.attributes-item.result) c.in_ok-attributes.attributes three.split
    (c.in_ok-attributes.ensures ∙ ap (map shadows.stored_in) c.parts-2.ensures) in
    ap₂ named_so c.in_ok-name.ensures c.from_list.ensures ∙ whole
