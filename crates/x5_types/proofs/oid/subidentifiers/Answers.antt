-- A number that is too large for an arc makes the octets no object identifier.
use Rattle.std.proofs.Common.{arith}
use Rattle.x5_types.proofs.Arcs.{too_large}
use Rattle.x5_types.proofs.oid.subidentifiers.Goals as goal

pub returns-then-before-ge-LARGE : goal.returns-then-before-ge-LARGE
returns-then-before-ge-LARGE c =
    too_large c.args.octets.now c.loop-octet.octet-index c.loop-octet.numbers.items c.loop-octet.fresh
    c.loop-octet.before c.loop-octet.invariant c.loop-octet-test.true
    (omega (arith, c.if-before-ge-LARGE.true, c.from.ensures))
