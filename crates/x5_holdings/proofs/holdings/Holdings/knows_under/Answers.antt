-- What each table tells, together.
use Rattle.std.proofs.Common.{◌∙◌, map}
use Rattle.x5_model.specs.Values.{key_of}
use Rattle.x5_holdings.specs.Tables.{below_own}
use Rattle.x5_holdings.proofs.Standing.{known_under}
use Rattle.x5_holdings.proofs.holdings.Holdings.knows_under.Goals as goal

pub returns : goal.returns
returns c r may =
    c.is_one.ensures
    ∙ known_under c.args.self.now (key_of c.args.rdns.now) r may c.has_under-own.result c.has_under-copied.result c.has_under-below.result c.has_under-root.result
    c.has_under-cross.result
    (c.has_under-own.ensures (map (λ k. key_of k.prefix) c.args.self.now.own) c.tables-tables.ensures.own)
    (c.has_under-copied.ensures (map (λ k. key_of k.prefix) c.args.self.now.copies) c.tables-tables.ensures.copies)
    (c.has_under-below.ensures (below_own c.args.self.now) c.tables-tables.ensures.below_own)
    (c.has_under-root.ensures (map (λ k. key_of k.pin) c.args.self.now.root) c.tables-tables.ensures.root)
    (c.has_under-cross.ensures (map (λ k. key_of k.pin) c.args.self.now.cross) c.tables-tables.ensures.cross)
