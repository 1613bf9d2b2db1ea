-- The agents so far, and then the others.
use Rattle.std.proofs.Common.{◌≡◌, ◌++◌, drop, map}
use Rattle.x5_model_messages.specs.Shadows as shadows
use Rattle.x5_types.specs.NodeView.{node_view}
use Rattle.x5_dispber.specs.ShadowViews.{agent_name}
use Rattle.x5_dispber.proofs.refreshes.put_agents.Given as goal

abbrev pub invariant-loop-agent : goal.invariant-loop-agent
invariant-loop-agent l =
    map node_view l.nodes.items ++ map (shadows.agent_node l.copy) (map (agent_name l.names) (drop l.agent-index l.agents))
    ≡ map node_view l.fn.nodes.items ++ map (shadows.agent_node l.copy) (map (agent_name l.names) l.agents)
