-- The agent's name stands once among the names.
use Rattle.std.proofs.Common.{ap, ◌∙◌}
use Rattle.x5_ops.specs.AgentNames.{agent_of}
use Rattle.x5_access.proofs.Names.{own_place}
use Rattle.x5_access.proofs.point.Goals as goal

pub returns : goal.returns
returns c =
    ap (agent_of c.args.names.now) c.in_ok-clone.ensures.cases
    ∙ own_place c.args.names.now c.args.agent c.name.result.now c.requires.apart c.name.ensures
