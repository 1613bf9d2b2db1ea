-- Where reading stands in the octets.
use Rattle.x5_types.specs.Arcs.{IsRead}
use Rattle.x5_types.proofs.oid.subidentifiers.Given as goal

abbrev pub invariant-loop-octet : goal.invariant-loop-octet
invariant-loop-octet l = IsRead l.octets l.octet-index l.numbers.items l.fresh l.before
