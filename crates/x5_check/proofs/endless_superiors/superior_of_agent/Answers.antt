-- The agent at the place is the one with that number.
use Rattle.std.proofs.Common.{ap, ◌∙◌}
use Rattle.x5_model_tree.specs.Masters.{superior_of}
use Rattle.x5_check.proofs.ByAgent.{superior_got, superior_lacking}
use Rattle.x5_check.proofs.endless_superiors.superior_of_agent.Goals as goal

pub returns-in-Some : goal.returns-in-Some
returns-in-Some c =
    c.superior.ensures
    ∙ superior_got c.args.known.now c.agents.result.now c.agent.inside.0 c.get.result c.in-Some.agent c.agents.ensures c.get.ensures.lookup c.in-Some.is
    ∙ ap (superior_of c.args.known.now) c.agent.view_is

pub returns-in-None : goal.returns-in-None
returns-in-None c =
    superior_lacking c.args.known.now c.agents.result.now c.agent.inside.0 c.get.result c.agents.ensures c.get.ensures.lookup c.in-None.is
    ∙ ap (superior_of c.args.known.now) c.agent.view_is
