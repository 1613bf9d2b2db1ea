-- Some member is the one sought.
use Rattle.std.proofs.Common.{◌≡◌, ◌∙◌, rules, of_calls, tests}
use Rattle.std.specs.Prelude.{◌==◌}
use Rattle.std.specs.List.{list_any}
use Rattle.std.proofs.lemmas.Iterator.{YieldsList-from_slice}
use Rattle.std.proofs.lemmas.Iterator.Search.{any_from_yields_List}
use Rattle.x5_world.proofs.Repeating.{any_has}
use Rattle.x5_world.proofs.links.has_agent.Goals as goal

pub returns : goal.returns
returns c =
    let any : c.any.result ≡ list_any (λ x. x == c.args.agent) c.args.agents.now =
    any_from_yields_List (λ x. x == c.args.agent) _ _ _ c.any.ensures.ran
    (YieldsList-from_slice c.args.agents.now cc)
    (λ x b q k. search (rules, of_calls, tests)) in
    any ∙ any_has c.args.agents.now c.args.agent
