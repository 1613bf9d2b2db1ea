-- The members of the second component are agents.
use Rattle.std.proofs.Common.{◌≡◌, List, map, ap, ap₂, sym, subst, ◌∙◌}
use Rattle.std.specs.Prelude.{All}
use Rattle.x5_know.specs.Names.{has_name}
use Rattle.x5_model.specs.Values.{Name, Text}
use Rattle.x5_model_messages.specs.Shadows as shadows
use Rattle.x5_model_typed.specs.Nodes as nodes
use Rattle.x5_types.specs.NodeView.{node_view}
use Rattle.x5_dapber.proofs.Members.{as_two, members_are, two_are}
use Rattle.x5_dispber.specs.Sayable.{IsAgent}
use Rattle.x5_dispber.proofs.read_refreshes.other_in.Goals as goal

pub agents_in-requires : goal.agents_in-requires
agents_in-requires c =
    let both = two_are (λ name agents. All (IsAgent (has_name c.args.names.now)) (nodes.parts agents)) c.parts.result.now _
    c.name-item.result c.agents-item.result c.parts.ensures c.name-item.is c.agents-item.is c.requires in
    members_are (IsAgent (has_name c.args.names.now)) c.parts-2.result.now _ c.parts-2.ensures both.1

abbrev other_so : Name → List Text → shadows.NonSpecific
other_so n ts = record { at = n; agents = ts }

pub returns : goal.returns
returns c =
    let both = two_are (λ name agents. All (IsAgent (has_name c.args.names.now)) (nodes.parts agents)) c.parts.result.now _
    c.name-item.result c.agents-item.result c.parts.ensures c.name-item.is c.agents-item.is c.requires in
    ap₂ other_so c.in_ok-name_of.ensures (c.in_ok-agents_in.ensures ∙ ap (map shadows.agent_in) c.parts-2.ensures)
    ∙ sym (ap shadows.non_specific_in
    (as_two (node_view c.args.node.now) (node_view c.name-item.result) (node_view c.agents-item.result) both.0))
