-- The agent's name stands once among the names, so it stands for the agent.
use Rattle.std.proofs.Common.{◌≡◌, ap, ◌∙◌}
use Rattle.x5_ops.specs.AgentNames.{agent_of}
use Rattle.x5_access.proofs.Names.{own_place}
use Rattle.x5_eval.proofs.naming.source.Goals as goal

pub returns : goal.returns
returns c =
    let agent : agent_of c.args.names.now c.in_ok-clone-2.field-0 ≡ c.args.me =
    ap (agent_of c.args.names.now) c.in_ok-clone-2.ensures.cases
    ∙ own_place c.args.names.now c.args.me c.name.result.now c.requires.apart c.name.ensures in
    λ i. record { context = c.in_ok-clone.ensures.cases i; agent = agent i; moment = c.args.moment }
