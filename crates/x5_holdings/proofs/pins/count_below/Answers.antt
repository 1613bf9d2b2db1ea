-- The closure tells whether a row's key is below, and rows in order are parted by that.
use Rattle.std.proofs.Common.{rules, of_calls}
use Rattle.std.proofs.lemmas.Fn.{always_returns_same}
use Rattle.x5_model.specs.Keys.{key_below}
use Rattle.x5_model.specs.Values.{key_of}
use Rattle.x5_holdings.proofs.Sought.{partitioned}
use Rattle.x5_holdings.proofs.pins.count_below.Goals as goal

pub returns-clause-parts : goal.returns-clause-parts
returns-clause-parts c =
    c.partition_point.ensures.partitioned (λ y. key_below y.0 (key_of c.args.rdns.now))
    (always_returns_same _ _ _ (λ a r f k. search (rules, of_calls)))
    (partitioned c.args.rows.now c.requires (key_of c.args.rdns.now))
