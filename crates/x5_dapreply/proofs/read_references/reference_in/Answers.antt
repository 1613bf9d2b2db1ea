-- The members of the fourth component are agents, and the six components are what is said.
use Rattle.std.proofs.Common.{ap, map, ◌∙◌}
use Rattle.std.specs.Prelude.{All}
use Rattle.x5_model_messages.specs.Replies.{access_in}
use Rattle.x5_model_messages.specs.Terms.{rdn_of}
use Rattle.x5_model_typed.specs.Nodes as nodes
use Rattle.x5_types.specs.NodeView.{node_view}
use Rattle.x5_dapber.specs.Sayable.{IsCount}
use Rattle.x5_dapber.proofs.Members.{members_are}
use Rattle.x5_dapreply.specs.Sayable.{IsAccess, IsProgress}
use Rattle.x5_dapreply.proofs.ReferenceParts.{reference_said}
use Rattle.x5_dapreply.proofs.Six.{Six, six_are}
use Rattle.x5_dapreply.proofs.read_references.reference_in.Goals as goal

AreSo : Six
AreSo target progress kind agents exclusions tried = IsProgress progress × IsCount kind × All IsAccess (nodes.parts agents)

pub accesses_in-requires : goal.accesses_in-requires
unfolding AreSo
accesses_in-requires c =
    let six = six_are AreSo c.parts.result.now _ c.target-item.result c.progress-item.result c.kind-item.result
    c.agents-item.result c.exclusions-item.result c.tried-item.result c.parts.ensures c.target-item.is c.progress-item.is
    c.kind-item.is c.agents-item.is c.exclusions-item.is c.tried-item.is c.requires in
    members_are IsAccess c.parts-2.result.now _ c.parts-2.ensures six.are.2

pub returns : goal.returns
unfolding AreSo
returns c =
    let six = six_are AreSo c.parts.result.now _ c.target-item.result c.progress-item.result c.kind-item.result
    c.agents-item.result c.exclusions-item.result c.tried-item.result c.parts.ensures c.target-item.is c.progress-item.is
    c.kind-item.is c.agents-item.is c.exclusions-item.is c.tried-item.is c.requires in
    reference_said (node_view c.args.node.now) _ _ _ _ _ _ _ six.split c.in_ok-name_of.ensures c.progress_in.ensures
    c.kind_in.ensures (c.in_ok-accesses_in.ensures ∙ ap (map access_in) c.parts-2.ensures)
    (c.in_ok-rdns_in.ensures ∙ ap (map rdn_of) c.parts-3.ensures) c.flag_in.ensures
