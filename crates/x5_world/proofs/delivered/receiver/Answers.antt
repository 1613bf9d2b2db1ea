-- The name at the agent's place leads back to it, since names are distinct.
use Rattle.std.proofs.Common.{length, ap, ◌∙◌}
use Rattle.x5_model.proofs.Decide.{less_decides}
use Rattle.x5_ops.specs.AgentNames.{agent_of}
use Rattle.x5_access.proofs.Names.{own_place}
use Rattle.x5_world.specs.Answered.{is_agent}
use Rattle.x5_world.proofs.Journals.{named_is}
use Rattle.x5_world.proofs.delivered.receiver.Goals as goal

pub returns-clause-place : goal.returns-clause-place
returns-clause-place c =
    ap (agent_of c.args.names.now) c.in_ok-clone.ensures.cases
    ∙ own_place c.args.names.now c.args.agent c.name.result.now c.requires.apart c.name.ensures

pub returns-clause-named : goal.returns-clause-named
returns-clause-named c =
    ap (is_agent c.args.names.now) c.in_ok-clone.ensures.cases
    ∙ named_is c.args.names.now c.args.agent c.name.result.now c.requires.apart c.name.ensures
    ((less_decides c.args.agent (length c.args.names.now)).1 c.requires.there)
