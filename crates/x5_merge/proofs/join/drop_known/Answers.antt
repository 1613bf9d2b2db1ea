-- What is kept is what passes the closure's test.
use Rattle.std.proofs.Common.{not, rules, of_calls}
use Rattle.std.proofs.lemmas.Fn.{filter_same}
use Rattle.std.specs.List.{list_any}
use Rattle.std.specs.List.Sorted.{ties}
use Rattle.x5_merge.specs.Order.{below_by}
use Rattle.x5_merge.proofs.join.drop_known.Goals as goal

pub returns : goal.returns
returns g c =
    filter_same _ (λ y. not (list_any (λ x. ties (below_by g.T.Member.key) x y) c.args.earlier.now)) _ (λ x b f k. search (rules, of_calls)) c.args.members.now.items c.retain.new.self.items c.retain.ensures.filtered
