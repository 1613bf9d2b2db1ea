-- The closure tells whether a row stands there, and rows in order are parted by that.
use Rattle.std.proofs.Common.{rules, of_calls}
use Rattle.std.proofs.lemmas.Fn.{always_returns_same}
use Rattle.x5_model.specs.Values.{key_of}
use Rattle.x5_holdings.specs.Runs.{stands_under}
use Rattle.x5_holdings.proofs.Under.{under_first}
use Rattle.x5_holdings.proofs.runs.count_under.Goals as goal

pub returns-clause-parts : goal.returns-clause-parts
returns-clause-parts c =
    c.partition_point.ensures.partitioned (λ y. stands_under (key_of c.args.rdns.now) y)
    (always_returns_same _ _ _ (λ a r f k. search (rules, of_calls)))
    (under_first c.args.rows.now c.requires.ordered (key_of c.args.rdns.now) c.requires.behind)
