-- The members of the components are entries and references.
use Rattle.std.proofs.Common.{◌≡◌, ℕ, Bool, List, map, refl, ap, ap₂, sym, subst, ◌∙◌}
use Rattle.std.specs.Prelude.{All}
use Rattle.x5_know.specs.Names.{has_name}
use Rattle.x5_model.specs.Entries.{Named}
use Rattle.x5_model_messages.specs.Shadows as shadows
use Rattle.x5_model_typed.specs.Nodes as nodes
use Rattle.x5_types.specs.NodeView.{node_view}
use Rattle.x5_dapber.proofs.Members.{as_three, members_are, triple_is}
use Rattle.x5_dispber.specs.Sayable.{IsEntry, IsKnown, IsNonSpecific}
use Rattle.x5_dispber.proofs.read_refreshes.total_in.Goals as goal

abbrev said : (List ℕ → Bool) → nodes.Node → nodes.Node → nodes.Node → Type 0
said is_agent entries known others =
    All IsEntry (nodes.parts entries) × All (IsKnown is_agent) (nodes.parts known)
    × All (IsNonSpecific is_agent) (nodes.parts others)

pub entries_in-requires : goal.entries_in-requires
entries_in-requires c =
    let three = triple_is (said (has_name c.args.names.now)) c.parts.result.now _ c.entries-item.result c.known-item.result
    c.others-item.result c.parts.ensures c.entries-item.is c.known-item.is c.others-item.is c.requires in
    members_are IsEntry c.parts-2.result.now _ c.parts-2.ensures three.are.0

pub all_known_in-requires : goal.all_known_in-requires
all_known_in-requires c =
    let three = triple_is (said (has_name c.args.names.now)) c.parts.result.now _ c.entries-item.result c.known-item.result
    c.others-item.result c.parts.ensures c.entries-item.is c.known-item.is c.others-item.is c.requires in
    members_are (IsKnown (has_name c.args.names.now)) c.parts-3.result.now _ c.parts-3.ensures three.are.1

pub others_in-requires : goal.others_in-requires
others_in-requires c =
    let three = triple_is (said (has_name c.args.names.now)) c.parts.result.now _ c.entries-item.result c.known-item.result
    c.others-item.result c.parts.ensures c.entries-item.is c.known-item.is c.others-item.is c.requires in
    members_are (IsNonSpecific (has_name c.args.names.now)) c.parts-4.result.now _ c.parts-4.ensures three.are.2

total_same : (es fs : List Named) (ks ls : List shadows.Known) (ns ms : List shadows.NonSpecific) → es ≡ fs → ks ≡ ls → ns ≡ ms
    → shadows.Total es ks ns ≡ shadows.Total fs ls ms
total_same es fs ks ls ns ms e f g = cc

pub returns : goal.returns
returns c =
    let three = triple_is (said (has_name c.args.names.now)) c.parts.result.now _ c.entries-item.result c.known-item.result
    c.others-item.result c.parts.ensures c.entries-item.is c.known-item.is c.others-item.is c.requires in
    total_same _ _ _ _ _ _ (c.in_ok-entries.ensures ∙ ap (map shadows.entry_in) c.parts-2.ensures)
    (c.in_ok-specific.ensures ∙ ap (map shadows.known_in) c.parts-3.ensures)
    (c.in_ok-nssr.ensures ∙ ap (map shadows.non_specific_in) c.parts-4.ensures)
    ∙ sym (ap shadows.total_in (as_three (node_view c.args.node.now) (node_view c.entries-item.result)
    (node_view c.known-item.result) (node_view c.others-item.result) three.split))
