-- What is kept is what passes the closure's test.
use Rattle.std.proofs.Common.{not, rules, of_calls}
use Rattle.std.proofs.lemmas.Fn.{filter_same}
use Rattle.x5_model_run.specs.Network as network
use Rattle.x5_world.proofs.links.drop_pair.Goals as goal

pub returns : goal.returns
returns c =
    filter_same _ (λ p. not (network.is_pair c.args.a c.args.b p)) _ (λ x b f k. search (rules, of_calls))
    c.args.pairs.now.items c.retain.new.self.items c.retain.ensures.filtered
