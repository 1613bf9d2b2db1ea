-- The first one is of the agent at hand, or stands behind its contexts.
use Rattle.std.proofs.Common.{◌<◌, length, arith, ap, ◌∙◌}
use Rattle.std.specs.List.{find}
use Rattle.x5_know.specs.declared.described.DescribedAgent.{DescribedAgent}
use Rattle.x5_load.proofs.Copied.{found_first, found_later}
use Rattle.x5_model.specs.Keys.{same_key}
use Rattle.x5_model.specs.Values.{key_of}
use Rattle.x5_ops.specs.declared.knowledge.ContextSpec.{ContextSpec}
use Rattle.x5_load.proofs.agreements.first_of_prefix.Goals as goal

pub returns-in-Some : goal.returns-in-Some
returns-in-Some c =
    let p = λ (d : ContextSpec). same_key (key_of d.prefix) (key_of c.args.name.now) in
    let lt : c.loop-agent.agent-index < length c.args.agents.now = omega arith in
    found_first p (λ (a : DescribedAgent). a.spec.contexts) c.args.agents.now
    c.loop-agent.agent-index c.agent-item.result
    c.in-Some.context.now _ lt c.agent-item.is
    (c.in-Some.ensures ∙ ap (find p) c.as_slice.ensures) c.loop-agent.invariant

pub loop-agent-preserved : goal.loop-agent-preserved
loop-agent-preserved c =
    let p = λ (d : ContextSpec). same_key (key_of d.prefix) (key_of c.args.name.now) in
    let lt : c.loop-agent.agent-index < length c.args.agents.now = omega arith in
    found_later p (λ (a : DescribedAgent). a.spec.contexts) c.args.agents.now
    c.loop-agent.agent-index c.agent-item.result
    _ lt c.agent-item.is (c.in_default.ensures ∙ ap (find p) c.as_slice.ensures) c.loop-agent.invariant
