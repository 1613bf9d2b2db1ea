-- The name that is read is that of an agent of the world, who is found.
use Rattle.std.proofs.Common.{◌≡◌, ℕ, true, List, drop, ap, sym, subst, ◌∙◌}
use Rattle.x5_know.specs.Names.{has_name}
use Rattle.x5_model_typed.specs.Nodes as nodes
use Rattle.x5_model_typed.specs.Nodes.{Node}
use Rattle.x5_types.specs.FormView.{world}
use Rattle.x5_types.specs.NodeView.{node_view}
use Rattle.x5_dispber.specs.Direct.{LeafAt, world_agent}
use Rattle.x5_dispber.proofs.DirectParts.{agent_is_named}
use Rattle.x5_dispber.proofs.direct_references.agent_name_at.Goals as goal

pub agent_named-requires : goal.agent_named-requires
agent_named-requires c =
    let octets = c.args.octets.now in
    let n = node_view c.in_ok-node.node in
    let is = agent_is_named (world c.args.start.now c.args.names.now) n octets (drop c.in_ok-node.taken octets)
    c.in_ok-node.ensures.says in
    subst (λ (t : List ℕ). has_name c.args.names.now t ≡ true) (sym c.text_of.ensures) is.agent

pub returns-clause-says : goal.returns-clause-says
returns-clause-says c =
    let octets = c.args.octets.now in
    let w = world c.args.start.now c.args.names.now in
    let rest = drop c.in_ok-node.taken octets in
    let n = node_view c.in_ok-node.node in
    let is = agent_is_named w n octets rest c.in_ok-node.ensures.says in
    subst (λ (m : Node). LeafAt (world_agent w) 19 m octets rest)
    (is.text ∙ ap (λ (t : List ℕ). nodes.Text t) (sym (c.agent_named.ensures ∙ c.text_of.ensures)))
    c.in_ok-node.ensures.says
