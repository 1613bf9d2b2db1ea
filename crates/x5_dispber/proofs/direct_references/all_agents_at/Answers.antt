-- Each agent that is read stands before those that are left.
use Rattle.std.proofs.Common.{ℕ, List, refl, sym, subst, ◌∙◌}
use Rattle.x5_model_messages.specs.Shadows.{agent_node}
use Rattle.x5_model_typed.specs.Named as named
use Rattle.x5_model_typed.specs.Nodes.{Node}
use Rattle.x5_types.specs.FormView.{world}
use Rattle.x5_direct.specs.Here.{EachHere}
use Rattle.x5_direct.proofs.Heads.{nothing}
use Rattle.x5_direct.proofs.Here.{all_done_here, one_more_here}
use Rattle.x5_dispber.specs.ShadowViews.{agent_name}
use Rattle.x5_dispber.proofs.DirectParts.{agent_nodes, itself, one_agent_more}
use Rattle.x5_dispber.proofs.direct_references.all_agents_at.Goals as goal

pub loop-left-preserved : goal.loop-left-preserved
loop-left-preserved c =
    let names = c.args.names.now in
    let w = world c.args.start.now names in
    let copy = c.args.copy in
    let before = c.loop-left.agents.items in
    let now = c.push.new.self.items in
    let one = agent_node copy (agent_name names c.in_ok-agent.agent) in
    one_more_here w 1 named.WorldAgent (λ (n : Node). n) c.args.octets.now c.loop-left.left.now
    (agent_nodes names copy before)
    one c.in_ok-agent.taken (agent_nodes names copy now)
    (one_agent_more names copy before now c.in_ok-agent.agent c.in_ok-push.ensures.items) c.loop-left.invariant
    (one, c.in_ok-agent.ensures.reads, refl)

pub returns : goal.returns
returns c =
    let names = c.args.names.now in
    let w = world c.args.start.now names in
    let done = agent_nodes names c.args.copy c.loop-left.agents.items in
    let r = all_done_here w 1 named.WorldAgent (λ (n : Node). n) c.args.octets.now c.loop-left.left.now done
    c.loop-left.invariant (nothing c.loop-left.left.now (sym c.is_empty.ensures ∙ c.loop-left-test.false)) in
    subst (λ (l : List ℕ). EachHere w 1 named.WorldAgent (agent_nodes names c.args.copy l) c.args.octets.now)
    (sym c.from_vec.ensures)
    (subst (λ (ns : List Node). EachHere w 1 named.WorldAgent ns c.args.octets.now) (sym (r.2 ∙ itself r.0)) r.1)
