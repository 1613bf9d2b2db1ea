-- The members of the second component are agents, of which the first is the master.
use Rattle.std.proofs.Common.{◌≡◌, List, map, ap, ap₂, sym, subst, ◌∙◌}
use Rattle.x5_know.specs.Names.{has_name}
use Rattle.x5_model.specs.Values.{Name}
use Rattle.x5_model_messages.specs.Shadows as shadows
use Rattle.x5_model_typed.specs.Nodes as nodes
use Rattle.x5_types.specs.NodeView.{node_view}
use Rattle.x5_dapber.proofs.Members.{as_two, two_are}
use Rattle.x5_dispber.specs.Sayable.{HaveMaster}
use Rattle.x5_dispber.specs.ShadowViews.{agent_name}
use Rattle.x5_dispber.proofs.read_refreshes.known_in.Goals as goal

pub access_in-requires : goal.access_in-requires
access_in-requires c =
    let both = two_are (λ name agents. HaveMaster (has_name c.args.names.now) (nodes.parts agents)) c.parts.result.now _
    c.name-item.result c.agents-item.result c.parts.ensures c.name-item.is c.agents-item.is c.requires in
    subst (HaveMaster (has_name c.args.names.now)) (sym c.parts-2.ensures) both.1

pub returns : goal.returns
returns c =
    let both = two_are (λ name agents. HaveMaster (has_name c.args.names.now) (nodes.parts agents)) c.parts.result.now _
    c.name-item.result c.agents-item.result c.parts.ensures c.name-item.is c.agents-item.is c.requires in
    let name = node_view c.name-item.result in
    let agents = node_view c.agents-item.result in
    ap (λ (n : Name). record { pin = n; master = agent_name c.args.names.now c.in_ok-access_in.field-0.master; shadows = map (agent_name c.args.names.now) c.in_ok-access_in.field-0.shadows }) c.in_ok-name_of.ensures
    ∙ c.in_ok-access_in.ensures name
    ∙ ap (shadows.known_of name) c.parts-2.ensures
    ∙ sym (ap shadows.known_in (as_two (node_view c.args.node.now) name agents both.0))
