-- One more is added.
use Rattle.std.proofs.Common.{[], ◌∷◌, length}
use Rattle.x5_eval.specs.Rest.{wide_by}
use Rattle.x5_eval.proofs.Adding.{adds_more, next_known}
use Rattle.x5_eval.proofs.references.add_agents.Goals as goal

pub add_agent-requires-clause-known : goal.add_agent-requires-clause-known
add_agent-requires-clause-known c =
    next_known (length c.args.names.now) (λ a. wide_by c.args.name.now c.args.exclusions.now c.args.me (a ∷ [])) c.args.agents.now c.loop-agent.agent-index
    c.agent-item.result c.loop-agent-test.true c.agent-item.is c.loop-agent.invariant.known

pub loop-agent-preserved : goal.loop-agent-preserved
loop-agent-preserved c =
    adds_more (length c.args.names.now) (λ a. wide_by c.args.name.now c.args.exclusions.now c.args.me (a ∷ [])) c.args.agents.now c.loop-agent.agent-index
    c.agent-item.result c.loop-agent-test.true c.agent-item.is _ _ _ c.loop-agent.invariant c.in_ok-add_agent.ensures
