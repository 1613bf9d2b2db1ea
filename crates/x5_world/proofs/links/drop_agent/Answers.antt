-- What is kept is what passes the closure's test.
use Rattle.std.proofs.Common.{not, rules, of_calls}
use Rattle.std.specs.Prelude.{◌==◌}
use Rattle.std.proofs.lemmas.Fn.{filter_same}
use Rattle.x5_world.proofs.links.drop_agent.Goals as goal

pub returns : goal.returns
returns c =
    filter_same _ (λ x. not (x == c.args.agent)) _ (λ x b f k. search (rules, of_calls))
    c.args.agents.now.items c.retain.new.self.items c.retain.ensures.filtered
